use Rattle.std.proofs.Common.{◌≡◌, drop}
use Rattle.vx_plan.specs.Types.{are_there}
use Rattle.vx_plan.proofs.types.are_there.Given as goal

abbrev pub invariant-loop-key : goal.invariant-loop-key
invariant-loop-key l = are_there l.kinds (drop l.key-index l.keys) ≡ are_there l.kinds l.keys
