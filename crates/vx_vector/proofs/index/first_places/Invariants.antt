use Rattle.std.proofs.Common.{◌≡◌, ℕ, ◌<◌, get_or, length, None, Some}
use Rattle.vx_vector.proofs.index.first_places.Given as goal

abbrev pub invariant-loop-place : goal.invariant-loop-place
invariant-loop-place l = record {
  rows : length l.index.items ≡ l.place;
  at : (k : ℕ) → k < l.place → get_or l.index.items k None ≡ Some k;
}
