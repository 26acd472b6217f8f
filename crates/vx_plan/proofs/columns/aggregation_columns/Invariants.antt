use Rattle.std.proofs.Common.{◌≡◌, drop}
use Rattle.vx_plan.specs.Limits as limits
use Rattle.vx_plan.proofs.columns.aggregation_columns.Given as goal

abbrev pub invariant-loop-aggregate : goal.invariant-loop-aggregate
invariant-loop-aggregate l = limits.columns_grouped l.step l.columns (drop l.aggregate-index l.aggregates) ≡ limits.columns_grouped l.step l.keys l.aggregates
