use Rattle.std.proofs.Common.{rules, of_calls}
use Rattle.std.specs.Ordering.{is_lt}
use Rattle.std.proofs.lemmas.Fn.{always_returns_same}
use Rattle.std.proofs.lemmas.List.Sorted.{ranks_by}
use Rattle.vx_value.specs.KeyBytes.{key_values}
use Rattle.vx_meaning.specs.Groups.{key_cmp}
use Rattle.vx_meaning.proofs.GroupLemmas.{key_total}
use Rattle.vx_meaning.proofs.sorting.by_key.Goals as goal

pub returns-clause-sorted : goal.returns-clause-sorted
returns-clause-sorted c =
    let columns = c.args.columns.now in
    c.in_ok-sort_by.ensures.sorted (λ a b. is_lt (key_cmp (key_values columns a) (key_values columns b))) (ranks_by key_total (key_values columns)) (always_returns_same _ _ _ (λ a r f k. search (rules, of_calls)))
