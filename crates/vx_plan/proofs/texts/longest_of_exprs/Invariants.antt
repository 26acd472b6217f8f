use Rattle.std.proofs.Common.{◌≡◌, map, max, drop}
use Rattle.vx_expr.specs.Depth.{greatest, longest_literal}
use Rattle.vx_plan.proofs.texts.longest_of_exprs.Given as goal

abbrev pub invariant-loop-e : goal.invariant-loop-e
invariant-loop-e l = max l.longest (greatest (map longest_literal (drop l.e-index l.exprs))) ≡ greatest (map longest_literal l.exprs)
