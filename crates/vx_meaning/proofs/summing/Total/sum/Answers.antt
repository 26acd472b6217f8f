use Rattle.std.proofs.Common.{◌∙◌, ap, ap₂, arith}
use Rattle.vx_plan.specs.declared.aggregate.AggregateName.TheVariants.{Sum}
use Rattle.vx_meaning.specs.Folds.{added}
use Rattle.vx_meaning.proofs.FoldLemmas.{fold_of-more}
use Rattle.vx_meaning.proofs.SumLemmas.{within-plus, value-plus, fits-both, zero-sum}
use Rattle.vx_meaning.proofs.summing.Total.sum.Goals as goal

pub plus-total-requires-clause-high : goal.plus-total-requires-clause-high
plus-total-requires-clause-high c = fits-both c.loop-row.row-index c.loop-row.total c.summed.result (omega arith) c.loop-row.invariant.within c.summed.ensures.within

pub loop-row-preserved : goal.loop-row-preserved
loop-row-preserved c = record {
  value = value-plus c.loop-row.row-index c.loop-row.total c.summed.result c.plus-total.result c.plus-total.ensures c.loop-row.invariant.within c.summed.ensures.within
      ∙ ap₂ added c.loop-row.invariant.value c.summed.ensures.is
      ∙ fold_of-more c.args.step (record { name = Sum; column = c.args.column }) c.args.rows.now c.loop-row.row-index c.row-item.result (omega arith) c.row-item.is;
  within = within-plus c.loop-row.row-index c.loop-row.total c.summed.result c.plus-total.result c.plus-total.ensures c.loop-row.invariant.within c.summed.ensures.within;
  narrow = λ other. ap (λ t. t.high) c.plus-total.ensures ∙ zero-sum c.loop-row.total.high c.summed.result.high (c.loop-row.invariant.narrow other) (c.summed.ensures.narrow other);
}
