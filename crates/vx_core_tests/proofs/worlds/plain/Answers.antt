use Rattle.std.proofs.Common.{◌≡◌, ◌^◌, true, get_or, leb, arith}
use Rattle.std.proofs.lemmas.Bool.Decides.{nat_tests}
use Rattle.std.proofs.lemmas.List.Sums.{AllPass-from_list_all}
use Rattle.vx_pool.proofs.QuantumLemmas.{IsUnit-4096}
use Rattle.vx_core_tests.proofs.worlds.plain.Goals as goal

pub new-requires-clause-unit : goal.new-requires-clause-unit
new-requires-clause-unit c = IsUnit-4096

pub new-requires-clause-small : goal.new-requires-clause-small
new-requires-clause-small c =
    λ k d lt. let e : leb (get_or c.args.script.now k d) (2 ^ 33) ≡ true = AllPass-from_list_all (λ n. leb n (2 ^ 33)) c.args.script.now c.requires k d lt in
    grind (arith, nat_tests)
