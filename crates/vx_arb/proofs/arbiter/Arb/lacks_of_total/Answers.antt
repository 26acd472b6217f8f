use Rattle.std.proofs.Common.{◌<◌, ◌∙◌, sym, ap, arith, List}
use Rattle.vx_arb.specs.declared.rows.Live.{Live}
use Rattle.vx_arb.specs.Rows.{is_largest}
use Rattle.vx_arb.proofs.Aborts.{unmet_is}
use Rattle.vx_arb.proofs.arbiter.Arb.lacks_of_total.Goals as goal

pub returns-then-holds_job : goal.returns-then-holds_job
returns-then-holds_job g c =
    let lacking : c.self.inside.free < c.args.request.now.need = omega (arith, c.if-need-amount.false, c.need.ensures, c.amount.ensures.is) in
    unmet_is _ c.args.self.now c.args.request.now c.args.job c.has_largest.result c.self.view_is lacking
    (rw (← c.deref.ensures.value, ← c.looks-looks.ensures.is) (sym c.all_emptied.ensures ∙ c.if-not-all_emptied.false))
    (rw (← c.job.ensures, ← c.looks-looks.ensures.is) (sym c.none_unused.ensures ∙ c.if-not-none_unused.false))
    (rw (← c.deref-2.ensures.value) (sym c.holds_job.ensures ∙ c.if-holds_job.true))
    (c.has_largest.ensures ∙ ap (λ (rows : List Live). is_largest rows c.args.job) c.deref-then-holds_job.ensures.value)
