use Rattle.std.proofs.Common.{ℕ, ◌<◌, length, arith}
use Rattle.std.specs.Prelude.{get_or, false}
use Rattle.vx_value.specs.declared.value.Value.TheVariants.{Text, Bool}
use Rattle.vx_vector.specs.Lane.{text_at}
use Rattle.vx_eval.proofs.MarkLemmas.{strict_test}
use Rattle.vx_eval.proofs.texts.test_texts.Goals as goal

pub returns-clause-each : goal.returns-clause-each
returns-clause-each g c = λ (k : ℕ) (h : k < length c.args.a.now).
    let strict = g.met.X.TextTest.strict (text_at c.args.a.now k).text (text_at c.args.b.now k).text in
    let inside : k < c.loop-row.row = omega arith in
    rw (c.loop-row.invariant.done_marks k inside)
    (strict_test g.X.TextTest.meaning (Text (text_at c.args.a.now k).text) (Text (text_at c.args.b.now k).text) (Bool (get_or c.loop-row.values.items k false)) (text_at c.args.a.now k).mark (text_at c.args.b.now k).mark strict.0 strict.1 strict.2 (c.loop-row.invariant.done_values k inside))
