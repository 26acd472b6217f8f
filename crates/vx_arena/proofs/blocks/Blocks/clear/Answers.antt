use Rattle.std.proofs.Common.{sym, subst}
use Rattle.vx_arena.specs.Chunks.{IsTiling}
use Rattle.vx_arena.proofs.Adding.{empty_tiling}
use Rattle.vx_arena.proofs.blocks.Blocks.clear.Goals as goal

pub invariant_of-self : goal.invariant_of-self
invariant_of-self c = subst IsTiling (sym c.new.ensures) empty_tiling
