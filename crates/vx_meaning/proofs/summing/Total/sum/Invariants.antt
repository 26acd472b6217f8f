use Rattle.std.proofs.Common.{◌≡◌, ◌≢◌, take, pos}
use Rattle.vx_plan.specs.declared.aggregate.AggregateName.TheVariants.{Sum}
use Rattle.vx_plan.specs.declared.aggregate.Step.TheVariants.{Final}
use Rattle.vx_meaning.specs.Folds.{fold_of}
use Rattle.vx_meaning.specs.Sums.{total_value, IsWithin}
use Rattle.vx_meaning.proofs.summing.Total.sum.Given as goal

abbrev pub invariant-loop-row : goal.invariant-loop-row
invariant-loop-row l = record {
  value : total_value l.total ≡ fold_of l.step (record { name = Sum; column = l.column }) (take l.row-index l.rows);
  within : IsWithin l.row-index l.total;
  narrow : l.step ≢ Final → l.total.high ≡ pos 0;
}
