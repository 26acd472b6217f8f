use Rattle.std.proofs.Common.{◌≡◌, ◌≤◌, length, take, ◌-◌}
use Rattle.std.specs.List.{range_with_len}
use Rattle.vx_vector.proofs.places.first_in_lanes.Given as goal

abbrev pub invariant-loop-at : goal.invariant-loop-at
invariant-loop-at l = (l.at ≤ length l.places) × (take l.at l.places ≡ range_with_len 0 l.at)

abbrev pub decreases-loop-at : goal.decreases-loop-at
decreases-loop-at l = length l.places - l.at
