use Rattle.std.proofs.Common.{◌≡◌, take}
use Rattle.vx_plan.specs.declared.aggregate.AggregateName.TheVariants.{Count}
use Rattle.vx_meaning.specs.Folds.{fold_of}
use Rattle.vx_meaning.specs.Sums.{total_value, IsWithin}
use Rattle.vx_meaning.proofs.summing.Total.count.Given as goal

abbrev pub invariant-loop-row : goal.invariant-loop-row
invariant-loop-row l = record {
  value : total_value l.total ≡ fold_of l.step (record { name = Count; column = l.column }) (take l.row-index l.rows);
  within : IsWithin l.row-index l.total;
}
