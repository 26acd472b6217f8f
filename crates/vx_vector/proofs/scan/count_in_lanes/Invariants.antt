use Rattle.std.proofs.Common.{◌≡◌, ◌≤◌, length, take, ◌-◌, nat_eq}
use Rattle.std.specs.Prelude.{count_by}
use Rattle.vx_vector.proofs.scan.count_in_lanes.Given as goal

abbrev pub invariant-loop-at : goal.invariant-loop-at
invariant-loop-at l = (l.at ≤ length l.marks) × (l.count ≡ count_by (λ m. nat_eq m l.mark) (take l.at l.marks))

abbrev pub decreases-loop-at : goal.decreases-loop-at
decreases-loop-at l = length l.marks - l.at
