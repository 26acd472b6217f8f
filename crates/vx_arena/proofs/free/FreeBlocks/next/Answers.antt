use Rattle.std.proofs.Common.{◌≤◌, length, sym, subst, arith}
use Rattle.vx_arena.specs.Chunks.{Chunks}
use Rattle.vx_arena.specs.Names.{named}
use Rattle.vx_arena.specs.Free.{IsLive}
use Rattle.vx_arena.proofs.Effects.{long_named}
use Rattle.vx_arena.proofs.Steps.{named_live}
use Rattle.vx_arena.proofs.free.FreeBlocks.next.Goals as goal

pub next-requires-clause-there : goal.next-requires-clause-there
next-requires-clause-there c = named_live c.self.inside.blocks c.args.name (subst (λ (v : Chunks). IsLive v c.args.name) (sym c.self.view_is) c.requires)

pub next-requires-clause-long : goal.next-requires-clause-long
next-requires-clause-long c =
    let long : 16 ≤ length (named c.self.inside.blocks c.args.name).payload = long_named c.self.inside.blocks c.args.name c.self.invariant.long (named_live c.self.inside.blocks c.args.name (subst (λ (v : Chunks). IsLive v c.args.name) (sym c.self.view_is) c.requires)) in
    omega (arith, long)
