use Rattle.std.proofs.Common.{◌≡◌, ◌≤◌, ◌++◌, length, take, drop, ◌-◌}
use Rattle.vx_vector.specs.Marks.{strict_marks}
use Rattle.vx_vector.proofs.marks.combine_in_lanes.Given as goal

abbrev pub invariant-loop-left : goal.invariant-loop-left
invariant-loop-left l = (l.at ≤ length l.initial.left) × (l.left ≡ strict_marks (take l.at l.initial.left) (take l.at l.right) ++ drop l.at l.initial.left)

abbrev pub decreases-loop-left : goal.decreases-loop-left
decreases-loop-left l = length l.initial.left - l.at
