use Rattle.std.proofs.Common.{◌≡◌, ℕ, ◌<◌, length, get_or, false}
use Rattle.vx_vector.specs.Lane.{text_at}
use Rattle.vx_eval.specs.TextRows.{chosen_row}
use Rattle.vx_eval.proofs.text_rows.chosen_texts.Given as goal

abbrev pub invariant-loop-row : goal.invariant-loop-row
invariant-loop-row l = record {
  rows : length l.out ≡ l.row;
  done : (k : ℕ) → k < l.row → text_at l.out k ≡ chosen_row (get_or l.c.values.items k false) (get_or l.c.marks.items k 1) (text_at l.a k) (text_at l.b k);
}
