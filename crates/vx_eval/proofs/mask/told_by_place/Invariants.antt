use Rattle.std.proofs.Common.{◌≡◌, ◌≢◌, ℕ, ◌<◌, All, length, get_or, None}
use Rattle.vx_vector.specs.Lanes.{lane_at}
use Rattle.vx_eval.specs.Got.{fault_under}
use Rattle.vx_eval.proofs.mask.told_by_place.Given as goal

abbrev pub invariant-loop-row : goal.invariant-loop-row
invariant-loop-row l = record {
  count : length l.faults.items ≡ l.count;
  told : (k : ℕ) → k < l.row → get_or l.faults.items (get_or l.places k 0) None ≡ fault_under (lane_at l.lanes k).mark;
  others : (place : ℕ) → All (λ q. q ≢ place) l.places → get_or l.faults.items place None ≡ None;
}
