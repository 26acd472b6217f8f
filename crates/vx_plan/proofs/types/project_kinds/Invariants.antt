use Rattle.std.proofs.Common.{◌≡◌, map, drop, length}
use Rattle.vx_expr.specs.Typing.{type_of, all_kinds}
use Rattle.vx_plan.proofs.TypeLemmas.{continued}
use Rattle.vx_plan.proofs.types.project_kinds.Given as goal

abbrev pub invariant-loop-e : goal.invariant-loop-e
invariant-loop-e l = record {
  found : continued l.out (all_kinds (map (λ e. type_of e l.kinds) (drop l.e-index l.exprs))) ≡ all_kinds (map (λ e. type_of e l.kinds) l.exprs);
  count : length l.out ≡ l.e-index;
}
