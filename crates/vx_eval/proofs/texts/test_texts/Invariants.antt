use Rattle.std.proofs.Common.{◌≡◌, ℕ, ◌<◌, length}
use Rattle.std.specs.Prelude.{get_or, false}
use Rattle.vx_value.specs.declared.value.Value.TheVariants.{Text}
use Rattle.vx_expr.specs.Eval.{truth}
use Rattle.vx_eval.specs.Got.{strictest}
use Rattle.vx_vector.specs.Lane.{text_at}
use Rattle.vx_eval.proofs.texts.test_texts.Given as goal

abbrev pub invariant-loop-row : goal.invariant-loop-row
invariant-loop-row g l = record {
  values : length l.values.items ≡ length l.a;
  marks : length l.marks.items ≡ length l.a;
  done_values : (k : ℕ) → k < l.row → truth (get_or l.values.items k false) ≡ g.X.TextTest.meaning (Text (text_at l.a k).text) (Text (text_at l.b k).text);
  done_marks : (k : ℕ) → k < l.row → get_or l.marks.items k 1 ≡ strictest (text_at l.a k).mark (text_at l.b k).mark;
}
