use Rattle.std.proofs.Common.{◌≤◌, length, sym, subst, arith}
use Rattle.vx_arena.specs.Chunks.{Chunks}
use Rattle.vx_arena.specs.Names.{named}
use Rattle.vx_arena.specs.Free.{IsLive}
use Rattle.vx_arena.proofs.Effects.{long_named}
use Rattle.vx_arena.proofs.Steps.{named_live}
use Rattle.vx_arena.proofs.Keeping.{live_some_name}
use Rattle.vx_arena.proofs.free.FreeBlocks.len.Goals as goal

pub len-requires : goal.len-requires
len-requires c = named_live c.self.inside.blocks c.args.name (subst (λ (v : Chunks). IsLive v c.args.name) (sym c.self.view_is) c.requires)

pub returns-clause-long : goal.returns-clause-long
returns-clause-long c =
    let long : 16 ≤ length (named c.self.inside.blocks c.args.name).payload = long_named c.self.inside.blocks c.args.name c.self.invariant.long (named_live c.self.inside.blocks c.args.name (subst (λ (v : Chunks). IsLive v c.args.name) (sym c.self.view_is) c.requires)) in
    omega (arith, long, c.len.ensures)

pub returns-clause-some : goal.returns-clause-some
returns-clause-some c = live_some_name c.self.inside.blocks c.self.inside.heads c.args.name c.self.invariant (subst (λ (v : Chunks). IsLive v c.args.name) (sym c.self.view_is) c.requires)
