use Rattle.std.proofs.Common.{◌≡◌, map, nat_le, drop}
use Rattle.vx_expr.specs.Depth.{greatest, depth}
use Rattle.vx_plan.proofs.texts.are_all_within_depth.Given as goal

abbrev pub invariant-loop-e : goal.invariant-loop-e
invariant-loop-e l = nat_le (greatest (map depth (drop l.e-index l.exprs))) 64 ≡ nat_le (greatest (map depth l.exprs)) 64
