use Rattle.std.proofs.Common.{sym, subst}
use Rattle.vx_arena.specs.Chunks.{IsTiling}
use Rattle.vx_arena.proofs.Adding.{empty_tiling}
use Rattle.vx_arena.proofs.blocks.Blocks.new.Goals as goal

pub invariant_of-result : goal.invariant_of-result
invariant_of-result c = subst IsTiling (sym c.new.ensures) empty_tiling
