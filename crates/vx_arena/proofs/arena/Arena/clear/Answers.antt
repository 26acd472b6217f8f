use Rattle.std.proofs.Common.{sym, subst}
use Rattle.vx_arena.specs.Chunks.{Chunks}
use Rattle.vx_arena.specs.Text.{IsArena}
use Rattle.vx_arena.proofs.Starting.{arena_cleared}
use Rattle.vx_arena.proofs.Storing.{fits_taken}
use Rattle.vx_arena.proofs.arena.Arena.clear.Goals as goal

pub invariant_of-self : goal.invariant_of-self
invariant_of-self c = subst (λ (v : Chunks). IsArena v c.self.inside.taken c.self.inside.taken) (sym c.clear.ensures) (arena_cleared c.self.inside.taken (fits_taken c.self.inside.blocks c.self.inside.taken c.self.inside.given c.self.invariant))
