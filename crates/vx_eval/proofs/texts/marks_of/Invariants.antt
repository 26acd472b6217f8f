use Rattle.std.proofs.Common.{◌≡◌, ℕ, ◌<◌, length, get_or}
use Rattle.vx_vector.specs.Lane.{text_at}
use Rattle.vx_eval.proofs.texts.marks_of.Given as goal

abbrev pub invariant-loop-row : goal.invariant-loop-row
invariant-loop-row l = record {
  rows : length l.marks.items ≡ l.row;
  at : (k : ℕ) → k < l.row → get_or l.marks.items k 1 ≡ (text_at l.a k).mark;
}
