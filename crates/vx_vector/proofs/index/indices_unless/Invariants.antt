use Rattle.std.proofs.Common.{◌≡◌, ℕ, ◌<◌, get_or, length, None, true}
use Rattle.vx_vector.specs.Index.{unless}
use Rattle.vx_vector.proofs.index.indices_unless.Given as goal

abbrev pub invariant-loop-row : goal.invariant-loop-row
invariant-loop-row l = record {
  rows : length l.index.items ≡ l.row;
  at : (k : ℕ) → k < l.row → get_or l.index.items k None ≡ unless (get_or l.nulls k true) (get_or l.indices k 0);
}
