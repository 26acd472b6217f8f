use Rattle.std.proofs.Common.{◌≡◌, ◌∙◌, ℕ, ◌<◌, length, get_or, refl, sym, ap, arith}
use Rattle.std.specs.Prelude.{pos}
use Rattle.vx_value.specs.declared.value.Value.TheVariants.{Int}
use Rattle.vx_expr.specs.Eval as eval
use Rattle.vx_vector.specs.Marks.{strict_marks}
use Rattle.vx_vector.proofs.MarkLemmas.{length-strict_marks}
use Rattle.vx_eval.proofs.MarkLemmas.{strict_row}
use Rattle.vx_eval.proofs.arithmetic.of_ints.Goals as goal

pub invariant_of-result : goal.invariant_of-result
invariant_of-result g c =
    let marks : c.in_ok-marks.marks.items ≡ strict_marks c.args.a.now.marks.items c.args.b.now.marks.items = rw (c.as_slice-3.ensures.value, c.as_slice-4.ensures.value) at c.in_ok-marks.ensures in
    let rows : length c.in_ok-values.values.items ≡ length c.args.a.now.values.items = rw c.as_slice.ensures.value at c.in_ok-values.ensures.rows in
    record { even = rows ∙ c.args.a.now.even ∙ sym (ap length marks ∙ length-strict_marks c.args.a.now.marks.items c.args.b.now.marks.items c.requires) }

pub returns-clause-each : goal.returns-clause-each
returns-clause-each g c =
    let marks : c.in_ok-marks.marks.items ≡ strict_marks c.args.a.now.marks.items c.args.b.now.marks.items = rw (c.as_slice-3.ensures.value, c.as_slice-4.ensures.value) at c.in_ok-marks.ensures in
    let value = (rw (c.as_slice.ensures.value, c.as_slice-2.ensures.value) at c.in_ok-values.ensures.each) (omega arith) in
    λ (k : ℕ) (h : k < length c.args.a.now.marks.items).
    let inside : k < length c.args.a.now.values.items = rw c.args.a.now.even h in
    strict_row (eval.of_ints g.O.IntOp.meaning) (Int (get_or c.args.a.now.values.items k (pos 0))) (Int (get_or c.args.b.now.values.items k (pos 0))) (Int (get_or c.in_ok-values.values.items k (pos 0))) c.args.a.now.marks.items c.args.b.now.marks.items c.in_ok-marks.marks.items k refl refl refl c.requires h marks (value k inside)
