use Rattle.std.proofs.Common.{◌∙◌, ap₂, arith}
use Rattle.vx_plan.specs.declared.aggregate.AggregateName.TheVariants.{Count}
use Rattle.vx_meaning.specs.Folds.{added}
use Rattle.vx_meaning.proofs.FoldLemmas.{fold_of-more}
use Rattle.vx_meaning.proofs.SumLemmas.{within-plus, value-plus}
use Rattle.vx_meaning.proofs.summing.Total.count.Goals as goal

pub loop-row-preserved : goal.loop-row-preserved
loop-row-preserved c = record {
  value = value-plus c.loop-row.row-index c.loop-row.total c.counted.result c.plus-total.result c.plus-total.ensures c.loop-row.invariant.within c.counted.ensures.within
      ∙ ap₂ added c.loop-row.invariant.value c.counted.ensures.is
      ∙ fold_of-more c.args.step (record { name = Count; column = c.args.column }) c.args.rows.now c.loop-row.row-index c.row-item.result (omega arith) c.row-item.is;
  within = within-plus c.loop-row.row-index c.loop-row.total c.counted.result c.plus-total.result c.plus-total.ensures c.loop-row.invariant.within c.counted.ensures.within;
}
