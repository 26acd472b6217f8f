use Rattle.std.proofs.Common.{sym, ap, ◌∙◌, is_some}
use Rattle.vx_records.specs.Record.{record_in}
use Rattle.vx_rows.proofs.FieldLemmas.{number_free, number_live}
use Rattle.vx_rows.proofs.container.live_records.Goals.{then-is_live+in_ok-push, else-is_live}
use Rattle.vx_rows.proofs.container.live_records.Goals as goal

pub loop-number-preserved : goal.loop-number-preserved
loop-number-preserved c = elim c.if-is_live.branch [
  | then-is_live+in_ok-push w ↦ number_live (λ n. is_some (record_in c.args.records.now n)) c.loop-number.number c.loop-number.numbers.items c.if-is_live.numbers.items (sym c.is_live.ensures ∙ w.if-is_live.true) c.loop-number.invariant (ap (λ v. v.items) w.numbers-is ∙ w.in_ok-push.ensures.items)
  | else-is_live w ↦ number_free (λ n. is_some (record_in c.args.records.now n)) c.loop-number.number c.loop-number.numbers.items c.if-is_live.numbers.items (sym c.is_live.ensures ∙ w.if-is_live.false) c.loop-number.invariant (ap (λ v. v.items) w.numbers-is)
]
