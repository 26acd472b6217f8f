use Rattle.std.proofs.Common.{◌≡◌, ℕ, ◌<◌, length}
use Rattle.std.specs.Prelude.{get_or, pos}
use Rattle.vx_vector.specs.Lane.{text_at}
use Rattle.vx_eval.proofs.texts.lengths.Given as goal

abbrev pub invariant-loop-row : goal.invariant-loop-row
invariant-loop-row l = record {
  values : length l.values.items ≡ length l.a;
  marks : length l.marks.items ≡ length l.a;
  done_values : (k : ℕ) → k < l.row → get_or l.values.items k (pos 0) ≡ pos (length (text_at l.a k).text);
  done_marks : (k : ℕ) → k < l.row → get_or l.marks.items k 1 ≡ (text_at l.a k).mark;
}
