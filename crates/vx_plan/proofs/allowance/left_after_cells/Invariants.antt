use Rattle.std.proofs.Common.{◌≡◌, length, sum_by, drop}
use Rattle.vx_plan.specs.Limits as limits
use Rattle.vx_plan.proofs.allowance.left_after_cells.Given as goal

abbrev pub invariant-loop-row : goal.invariant-loop-row
invariant-loop-row l = limits.left_after l.left (sum_by length (drop l.row-index l.rows)) ≡ limits.left_after l.allowance (sum_by length l.rows)
