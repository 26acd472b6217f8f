use Rattle.std.proofs.Common.{sym, subst}
use Rattle.vx_arena.specs.Chunks.{Chunks}
use Rattle.vx_arena.specs.Free.{IsLive}
use Rattle.vx_arena.proofs.Steps.{named_live}
use Rattle.vx_arena.proofs.free.FreeBlocks.payload.Goals as goal

pub payload-requires-clause-there : goal.payload-requires-clause-there
payload-requires-clause-there c = named_live c.self.inside.blocks c.args.name (subst (λ (v : Chunks). IsLive v c.args.name) (sym c.self.view_is) c.requires.live)
