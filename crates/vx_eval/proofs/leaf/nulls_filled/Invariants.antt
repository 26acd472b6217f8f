use Rattle.std.proofs.Common.{◌≡◌, ℕ, ◌<◌, length}
use Rattle.vx_vector.specs.Lane.{text_at}
use Rattle.vx_eval.specs.TextRows.{blank_row}
use Rattle.vx_eval.proofs.leaf.nulls_filled.Given as goal

abbrev pub invariant-loop-row : goal.invariant-loop-row
invariant-loop-row l = record {
  rows : length l.texts ≡ l._row;
  at : (k : ℕ) → k < l._row → text_at l.texts k ≡ blank_row 1;
}
