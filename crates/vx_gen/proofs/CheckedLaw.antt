-- Nothing refuses a generated plan.
use Rattle.std.proofs.Common.{◌≡◌, ℕ, zero, suc, pos, ◌+◌, ◌*◌, ◌^◌, ◌<◌, ◌≤◌, max, Bool, true, false, List, [], ◌∷◌, ◌++◌, map, length, sum_by, codes, Result, Ok, Err, if◌then◌else◌, nat_le, refl, sym, ap, ap₂, subst, ◌∙◌, arith, add-one, le-leb}
use Rattle.std.specs.Fmt.{decimal}
use Rattle.std.specs.List.{range_with_len}
use Rattle.std.proofs.lemmas.Fmt.{length-decimal-le}
use Rattle.std.proofs.lemmas.List.FromFn.{length-map-range_with_len, sum_by-map-range_with_len_more}
use Rattle.vx_value.specs.declared.value.Kind.TheVariants as kind
use Rattle.vx_value.specs.declared.value.Value.{Value}
use Rattle.vx_value.specs.declared.value.Value.TheVariants as value
use Rattle.vx_expr.specs.Depth.{greatest, text_len, depth, longest_literal}
use Rattle.vx_expr.specs.Typing.{type_of, type_of_call}
use Rattle.vx_expr.specs.declared.expression.Expr.TheVariants.{Column, Literal}
use Rattle.vx_expr.specs.declared.expression.Func.TheVariants.{Neq}
use Rattle.vx_expr.proofs.ExprLemmas.{depth-Column, depth-Literal, depth-Call, longest_literal-Column, longest_literal-Literal, longest_literal-Call, type_of-Column, type_of-Literal, type_of-Call}
use Rattle.vx_plan.specs.declared.aggregate.Step.TheVariants.{Single}
use Rattle.vx_plan.specs.declared.node.JoinKind.TheVariants.{Inner}
use Rattle.vx_plan.specs.declared.node.Node.{Node}
use Rattle.vx_plan.specs.declared.node.Plan.{Plan}
use Rattle.vx_plan.specs.declared.refusal.LimitName.{LimitName}
use Rattle.vx_plan.specs.declared.refusal.LimitName.TheVariants.{Nodes, Columns, Rows, Cells, Depth, Text, Growth}
use Rattle.vx_plan.specs.declared.refusal.Refusal.{Refusal}
use Rattle.vx_plan.specs.declared.refusal.Refusal.TheVariants.{P6}
use Rattle.vx_plan.specs.Outcome.{on_ok}
use Rattle.vx_plan.specs.Tree.{Tree, tree, values, over, join, filter, aggregation, order}
use Rattle.vx_plan.specs.Limits.{keeps, check_limits}
use Rattle.vx_plan.specs.Ids.{check_ids}
use Rattle.vx_plan.specs.Types.{check_types}
use Rattle.vx_plan.specs.Widths.{check_widths}
use Rattle.vx_plan.specs.Check.{check_sizes, check_texts, check_rest, check_tree, check_plan, IsChecked}
use Rattle.vx_plan.proofs.TreeLemmas.{tree-Values, tree-Filter, tree-Join, tree-Aggregation, tree-Order}
use Rattle.vx_gen.specs.Rows.{row_at, drawn_rows, group_row, group_rows}
use Rattle.vx_gen.specs.Generated.{given, drawn_kinds, group_kinds, has_amount, filtered, joined, rows_counted, amounts_summed, grouped, by_name, sorted, plan_over, generated_plan}

-- ---- the predicate

depth-amount : depth has_amount ≡ 2
depth-amount = depth-Call Neq (Column 2 ∷ Literal (value.Int (pos 0)) kind.Int ∷ []) ∙ ap₂ (λ (a b : ℕ). max a (max b 0) + 1) (depth-Column 2) (depth-Literal (value.Int (pos 0)) kind.Int)

longest-amount : longest_literal has_amount ≡ 0
longest-amount = longest_literal-Call Neq (Column 2 ∷ Literal (value.Int (pos 0)) kind.Int ∷ []) ∙ ap₂ (λ (a b : ℕ). max a (max b 0)) (longest_literal-Column 2) (longest_literal-Literal (value.Int (pos 0)) kind.Int)

kind-amount : type_of has_amount drawn_kinds ≡ Ok kind.Bool
kind-amount =
    type_of-Call Neq (Column 2 ∷ Literal (value.Int (pos 0)) kind.Int ∷ []) drawn_kinds
    ∙ ap₂ (λ a b. type_of_call Neq (a ∷ b ∷ [])) (type_of-Column 2 drawn_kinds) (type_of-Literal (value.Int (pos 0)) kind.Int drawn_kinds)

-- ---- the tree

abbrev tree_over : List (List Value) → List (List Value) → Tree
tree_over rows groups =
    over 5 (order (by_name ∷ [])) (over 4 (aggregation Single (4 ∷ []) (rows_counted ∷ amounts_summed ∷ []))
    (join 3 Inner (1 ∷ []) (0 ∷ []) (over 1 (filter has_amount) (values 0 drawn_kinds rows false)) (values 2 group_kinds groups false)))

tree-plan_over : (rows groups : List (List Value)) → tree (plan_over rows groups).root ≡ tree_over rows groups
tree-plan_over rows groups =
    let drawn = given 0 drawn_kinds rows in
    let left = filtered drawn in
    let right = given 2 group_kinds groups in
    let both = joined left right in
    let source = grouped both in
    tree-Order (sorted source) (by_name ∷ []) source refl
    ∙ ap (over 5 (order (by_name ∷ []))) (tree-Aggregation source Single (4 ∷ []) (rows_counted ∷ amounts_summed ∷ []) both refl
    ∙ ap (over 4 (aggregation Single (4 ∷ []) (rows_counted ∷ amounts_summed ∷ []))) (tree-Join both Inner (1 ∷ []) (0 ∷ []) left right refl
    ∙ ap₂ (join 3 Inner (1 ∷ []) (0 ∷ [])) (tree-Filter left has_amount drawn refl ∙ ap (over 1 (filter has_amount)) (tree-Values drawn drawn_kinds rows false refl)) (tree-Values right group_kinds groups false refl)))

-- ---- what the limits ask of the rows

pub record Keeps (rows named : List (List Value)) : Type 0 where
  pub few : length rows ≤ 50000
  pub named_many : length named ≡ 500
  pub cells : sum_by length rows ≤ 150000
  pub named_cells : sum_by length named ≤ 1000
  pub texts : greatest (map (λ row. greatest (map text_len row)) rows) ≤ 65535
  pub named_texts : greatest (map (λ row. greatest (map text_len row)) named) ≤ 65535

cells_in : (f : ℕ → List Value) (k : ℕ) → ((i : ℕ) → length (f i) ≡ k) → (n : ℕ) → sum_by length (map f (range_with_len 0 n)) ≡ k * n
cells_in f k each zero = omega arith
cells_in f k each (suc n) =
    let all : sum_by length (map f (range_with_len 0 (suc n))) ≡ sum_by length (map f (range_with_len 0 n)) + length (f n) = ap (λ (m : ℕ). sum_by length (map f (range_with_len 0 m))) (sym (add-one n)) ∙ sum_by-map-range_with_len_more length f 0 n n (omega arith) in
    omega (arith, all, each n, cells_in f k each n)

texts_in : (f : ℕ → List Value) (a n : ℕ) → ((i : ℕ) → i < a + n → greatest (map text_len (f i)) ≤ 65535) → greatest (map (λ row. greatest (map text_len row)) (map f (range_with_len a n))) ≤ 65535
texts_in f a zero each = omega arith
texts_in f a (suc n) each = omega (arith, each a (omega arith), texts_in f (a + 1) n (λ i h. each i (omega (arith, h))))

row_text : (number i : ℕ) → greatest (map text_len (row_at number i)) ≤ 65535
row_text number i = omega arith

group_text : (j : ℕ) → j < 500 → greatest (map text_len (group_row j)) ≤ 65535
group_text j h =
    let short : length (decimal j) ≤ 3 = length-decimal-le 3 j (omega arith) (omega (arith, h)) (omega (arith, h)) in
    omega (arith, short)

keeps_rows : (number count : ℕ) → count ≤ 50000 → Keeps (drawn_rows number count) (group_rows 500)
unfolding drawn_rows group_rows
keeps_rows number count h =
    let many : length (map (row_at number) (range_with_len 0 count)) ≡ count = length-map-range_with_len (row_at number) 0 count in
    let cells = cells_in (row_at number) 3 (λ i. refl) count in
    let group_cells = cells_in group_row 2 (λ j. refl) 500 in
    record {
      few = omega (arith, many, h);
      named_many = length-map-range_with_len group_row 0 500;
      cells = omega (arith, cells, h);
      named_cells = omega (arith, group_cells);
      texts = texts_in (row_at number) 0 count (λ i _. row_text number i);
      named_texts = texts_in group_row 0 500 (λ j less. group_text j (omega (arith, less)));
    }

-- ---- the limits

kept : (name : LimitName) (names : List LimitName) (t : Tree) → keeps name t ≡ true → check_limits names t ≡ Ok tt → check_limits (name ∷ names) t ≡ Ok tt
kept name names t is rest = ap (λ b. if b then check_limits names t else Err (P6 name)) is ∙ rest

module _ (rows groups : List (List Value)) (fits : Keeps rows groups) where
  abbrev t : Tree
  t = tree_over rows groups

  keeps_all_rows : keeps Rows t ≡ true
  keeps_all_rows = le-leb (0 + length rows + length groups) 100000 (omega (arith, fits.few, fits.named_many))

  keeps_cells : keeps Cells t ≡ true
  keeps_cells = le-leb (0 + sum_by length rows + sum_by length groups) 1000000 (omega (arith, fits.cells, fits.named_cells))

  keeps_depth : keeps Depth t ≡ true
  keeps_depth = rw depth-amount refl

  keeps_texts : keeps Text t ≡ true
  keeps_texts =
      let own : nat_le (greatest (map (λ row. greatest (map text_len row)) rows)) 65535 ≡ true = le-leb _ _ fits.texts in
      let named : nat_le (greatest (map (λ row. greatest (map text_len row)) groups)) 65535 ≡ true = le-leb _ _ fits.named_texts in
      rw (longest-amount, own, named) refl

  keeps_growth : keeps Growth t ≡ true
  keeps_growth =
      let product : length rows * length groups ≡ length rows * 500 = ap (λ (m : ℕ). length rows * m) fits.named_many in
      let own : nat_le (length rows) (2 ^ 62) ≡ true = le-leb _ _ (omega (arith, fits.few)) in
      let named : nat_le (length groups) (2 ^ 62) ≡ true = le-leb _ _ (omega (arith, fits.named_many)) in
      let pairs : nat_le (length rows * length groups + length rows + length groups) (2 ^ 62) ≡ true = le-leb _ _ (omega (arith, product, fits.few, fits.named_many)) in
      let last : nat_le (length rows * length groups + length rows + length groups + 8) (2 ^ 62) ≡ true = le-leb _ _ (omega (arith, product, fits.few, fits.named_many)) in
      rw (last, pairs, own, named) refl

  sizes : check_sizes t ≡ Ok tt
  sizes =
      kept Nodes (Columns ∷ Rows ∷ Cells ∷ Depth ∷ []) t refl
      (kept Columns (Rows ∷ Cells ∷ Depth ∷ []) t refl
      (kept Rows (Cells ∷ Depth ∷ []) t keeps_all_rows
      (kept Cells (Depth ∷ []) t keeps_cells
      (kept Depth [] t keeps_depth refl))))

  types : check_types t ≡ Ok tt
  types = rw kind-amount refl

  rest : check_rest t ≡ Ok tt
  rest =
      ap (λ r. on_ok r (λ _. on_ok (check_ids t) (λ _. on_ok (check_types t) (λ _. check_widths t)))) (kept Growth [] t keeps_growth refl)
      ∙ ap (λ r. on_ok r (λ _. check_widths t)) types

  pub checked_tree : check_tree t ≡ Ok tt
  checked_tree =
      ap (λ r. on_ok r (λ _. on_ok (check_texts t) (λ _. check_rest t))) sizes
      ∙ (ap (λ r. on_ok r (λ _. check_rest t)) (kept Text [] t keeps_texts refl) ∙ rest)

-- a generated plan is a checked plan
pub checked : (number count : ℕ) → count ≤ 50000 → IsChecked (generated_plan number count)
checked number count h =
    ap check_tree (tree-plan_over (drawn_rows number count) (group_rows 500)) ∙ checked_tree (drawn_rows number count) (group_rows 500) (keeps_rows number count h)

-- the same of a root that was put together so
pub checked_root : (root g j f d s : Node) (rows groups : List (List Value)) (number count : ℕ) → count ≤ 50000 → rows ≡ drawn_rows number count → groups ≡ group_rows 500
    → d ≡ given 0 drawn_kinds rows → s ≡ given 2 group_kinds groups → f ≡ filtered d → j ≡ joined f s → g ≡ grouped j → root ≡ sorted g → IsChecked (record { root = root })
checked_root root g j f d s rows groups number count h er eg ed es ef ej ec eo =
    let of : Node → Plan = λ n. record { root = n } in
    let left = ef ∙ ap filtered (ed ∙ ap (given 0 drawn_kinds) er) in
    let right = es ∙ ap (given 2 group_kinds) eg in
    let same : root ≡ (generated_plan number count).root = eo ∙ ap sorted (ec ∙ ap grouped (ej ∙ ap₂ joined left right)) in
    subst IsChecked (sym (ap of same)) (checked number count h)
