use Rattle.std.proofs.Common.{◌≡◌, map, max, drop}
use Rattle.vx_expr.specs.Depth as sizes
use Rattle.vx_expr.proofs.sizes.+longest.Given as goal

abbrev pub invariant-longest_of_all-loop-one : goal.invariant-longest_of_all-loop-one
invariant-longest_of_all-loop-one l = max l.longest (sizes.greatest (map sizes.longest_literal (drop l.one-index l.all))) ≡ sizes.greatest (map sizes.longest_literal l.all)
