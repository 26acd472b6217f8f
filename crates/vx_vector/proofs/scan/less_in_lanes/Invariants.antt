use Rattle.std.proofs.Common.{◌≡◌, ◌≤◌, length, take, ◌-◌, false, nat_le}
use Rattle.std.specs.List.{list_any}
use Rattle.vx_vector.proofs.scan.less_in_lanes.Given as goal

abbrev pub invariant-loop-at : goal.invariant-loop-at
invariant-loop-at l = (l.at ≤ length l.marks) × (list_any (nat_le l.least) (take l.at l.marks) ≡ false)

abbrev pub decreases-loop-at : goal.decreases-loop-at
decreases-loop-at l = length l.marks - l.at
