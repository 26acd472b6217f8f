use Rattle.std.proofs.Common.{◌≡◌, map, nat_le, drop}
use Rattle.vx_expr.specs.Depth as sizes
use Rattle.vx_expr.proofs.sizes.+depth.Given as goal

abbrev pub invariant-all_within_depth-loop-one : goal.invariant-all_within_depth-loop-one
invariant-all_within_depth-loop-one l = nat_le (sizes.greatest (map sizes.depth (drop l.one-index l.all))) l.most ≡ nat_le (sizes.greatest (map sizes.depth l.all)) l.most
