use Rattle.std.proofs.Common.{◌≡◌, nat_eq, drop}
use Rattle.std.specs.List.{list_any, list_all}
use Rattle.vx_plan.proofs.lists.are_among.Given as goal

abbrev pub invariant-loop-one : goal.invariant-loop-one
invariant-loop-one l = list_all (λ one. list_any (nat_eq one) l.all) (drop l.one-index l.some) ≡ list_all (λ one. list_any (nat_eq one) l.all) l.some
