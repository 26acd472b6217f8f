use Rattle.std.proofs.Common.{◌≡◌, ℕ, ◌<◌, if◌then◌else◌, length, get_or, false}
use Rattle.vx_vector.specs.Lane.{text_at, text_row}
use Rattle.vx_eval.specs.TextRows.{blank_row}
use Rattle.vx_eval.proofs.leaf.texts_filled.Given as goal

abbrev pub invariant-loop-row : goal.invariant-loop-row
invariant-loop-row l = record {
  rows : length l.texts ≡ l.row;
  at : (k : ℕ) → k < l.row → text_at l.texts k ≡ (if get_or l.wanted k false then text_row 0 l.text else blank_row 1);
}
