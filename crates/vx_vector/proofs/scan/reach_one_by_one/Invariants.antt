use Rattle.std.proofs.Common.{◌≡◌, take, false, nat_le}
use Rattle.std.specs.List.{list_any}
use Rattle.vx_vector.proofs.scan.reach_one_by_one.Given as goal

abbrev pub invariant-loop-mark : goal.invariant-loop-mark
invariant-loop-mark l = list_any (nat_le l.least) (take l.mark-index l.marks) ≡ false
