use Rattle.std.proofs.Common.{◌≡◌, drop}
use Rattle.vx_plan.specs.Tree.{tree}
use Rattle.vx_plan.specs.Limits as limits
use Rattle.vx_plan.proofs.checking.check_limits.Given as goal

abbrev pub invariant-loop-name : goal.invariant-loop-name
invariant-loop-name l = limits.check_limits (drop l.name-index l.names) (tree l.node) ≡ limits.check_limits l.names (tree l.node)
