use Rattle.std.proofs.Common.{◌≡◌, drop}
use Rattle.vx_plan.specs.Types.{are_pairs_same}
use Rattle.vx_plan.proofs.types.are_pairs_same.Given as goal

abbrev pub invariant-loop-at : goal.invariant-loop-at
invariant-loop-at l = are_pairs_same l.left l.right (drop l.at l.left_keys) (drop l.at l.right_keys) ≡ are_pairs_same l.left l.right l.left_keys l.right_keys
