use Rattle.std.proofs.Common.{◌≡◌, nat_eq, drop}
use Rattle.std.specs.List.{list_any}
use Rattle.vx_plan.proofs.lists.contains.Given as goal

abbrev pub invariant-loop-number : goal.invariant-loop-number
invariant-loop-number l = list_any (nat_eq l.wanted) (drop l.number-index l.numbers) ≡ list_any (nat_eq l.wanted) l.numbers
