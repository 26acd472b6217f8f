use Rattle.std.proofs.Common.{◌≡◌, map, drop, length}
use Rattle.vx_plan.specs.Limits.{columns_grouped}
use Rattle.vx_plan.specs.Types.{kinds_grouped, aggregate_kinds, all_in_order}
use Rattle.vx_plan.proofs.TypeLemmas.{continued}
use Rattle.vx_plan.proofs.aggregates.grouped_kinds.Given as goal

abbrev pub invariant-loop-aggregate : goal.invariant-loop-aggregate
invariant-loop-aggregate l = record {
  found : continued l.out (all_in_order (map (aggregate_kinds l.step l.kinds) (drop l.aggregate-index l.aggregates))) ≡ kinds_grouped l.step l.keys l.aggregates l.kinds;
  count : columns_grouped l.step (length l.out) (drop l.aggregate-index l.aggregates) ≡ columns_grouped l.step (length l.keys) l.aggregates;
}
