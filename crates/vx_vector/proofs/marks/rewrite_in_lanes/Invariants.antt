use Rattle.std.proofs.Common.{◌≡◌, ◌≤◌, ◌++◌, length, take, drop, map, ◌-◌}
use Rattle.vx_vector.proofs.marks.rewrite_in_lanes.Given as goal

abbrev pub invariant-loop-marks : goal.invariant-loop-marks
invariant-loop-marks g l = (l.at ≤ length l.initial.marks) × (l.marks ≡ map g.R.Rewrite.becomes (take l.at l.initial.marks) ++ drop l.at l.initial.marks)

abbrev pub decreases-loop-marks : goal.decreases-loop-marks
decreases-loop-marks g l = length l.initial.marks - l.at
