use Rattle.std.proofs.Common.{sym, subst}
use Rattle.vx_arena.specs.Chunks.{Chunks}
use Rattle.vx_arena.specs.Text.{IsArena}
use Rattle.vx_arena.proofs.Starting.{arena_empty}
use Rattle.vx_arena.proofs.arena.Arena.new.Goals as goal

pub invariant_of-result : goal.invariant_of-result
invariant_of-result c = subst (λ (v : Chunks). IsArena v 0 0) (sym c.new.ensures) arena_empty
