use Rattle.std.proofs.Common.{refl, rules, of_calls}
use Rattle.std.specs.Ordering.{is_lt}
use Rattle.std.proofs.lemmas.Fn.{always_returns_same}
use Rattle.std.proofs.lemmas.List.Sorted.{ranks_by}
use Rattle.vx_value.specs.Order.{cmp_rows}
use Rattle.vx_value.proofs.OrderLemmas.{cmp_rows_total, IsSortedBy-from_sort}
use Rattle.vx_meaning.proofs.sorting.over_order.Goals as goal

pub returns : goal.returns
returns c = record {
  input = c.args.below.items;
  from = refl;
  same = c.in_ok-sort_by.ensures.permutation;
  sorted = IsSortedBy-from_sort c.args.keys.now c.sort_by.new.self.items (c.in_ok-sort_by.ensures.sorted (λ a b. is_lt (cmp_rows c.args.keys.now a b)) (ranks_by (cmp_rows_total c.args.keys.now) (λ row. row)) (always_returns_same _ _ _ (λ a r f k. search (rules, of_calls))));
}
