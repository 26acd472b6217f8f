use Rattle.std.proofs.Common.{◌≡◌, ℕ, ◌<◌, length, get_or, false, if◌then◌else◌}
use Rattle.vx_vector.specs.Lane.{text_at}
use Rattle.vx_eval.specs.TextRows.{blank_row, joined_row}
use Rattle.vx_eval.proofs.text_rows.concatenations.Given as goal

abbrev pub invariant-loop-row : goal.invariant-loop-row
invariant-loop-row l = record {
  rows : length l.out ≡ l.row;
  done : (k : ℕ) → k < l.row → text_at l.out k ≡ (if get_or l.wanted k false then joined_row (text_at l.a k) (text_at l.b k) else blank_row 1);
}
