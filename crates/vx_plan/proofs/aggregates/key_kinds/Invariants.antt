use Rattle.std.proofs.Common.{◌≡◌, drop, length}
use Rattle.vx_plan.specs.Types.{kinds_at}
use Rattle.vx_plan.proofs.TypeLemmas.{continued}
use Rattle.vx_plan.proofs.aggregates.key_kinds.Given as goal

abbrev pub invariant-loop-key : goal.invariant-loop-key
invariant-loop-key l = record {
  found : continued l.out (kinds_at l.kinds (drop l.key-index l.keys)) ≡ kinds_at l.kinds l.keys;
  count : length l.out ≡ l.key-index;
}
