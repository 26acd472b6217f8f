-- What the sizes of a plan tell the stages after them.
use Rattle.std.proofs.Common.{◌≡◌, ◌+◌, ◌≤◌, Bool, true, false, List, [], ◌∷◌, length, sum_by, Result, Ok, Err, if◌then◌else◌, refl, ap, sym, ◌∙◌, arith}
use Rattle.std.proofs.lemmas.Bool.Decides.{nat_tests}
use Rattle.std.proofs.lemmas.List.Sums.{sum_by-append}
use Rattle.vx_plan.specs.declared.refusal.LimitName.TheVariants.{Nodes, Columns, Rows, Cells, Depth, Growth}
use Rattle.vx_plan.specs.declared.refusal.LimitName.{LimitName}
use Rattle.vx_plan.specs.declared.refusal.Refusal.{Refusal}
use Rattle.vx_plan.specs.declared.refusal.Refusal.TheVariants.{P6}
use Rattle.vx_plan.specs.declared.node.Node.{Node}
use Rattle.vx_plan.specs.Outcome.{on_ok}
use Rattle.vx_plan.specs.Tree.{Tree, tree, values, over, join, pre_order}
use Rattle.vx_plan.specs.Limits.{counted, keeps, keeps_everywhere, check_limits}
use Rattle.vx_plan.specs.Ids.{check_ids, enter_all}
use Rattle.vx_plan.specs.Types.{typed, check_types}
use Rattle.vx_plan.specs.Widths.{width, from_one}
use Rattle.vx_plan.specs.Check.{check_sizes, check_rest}
use Rattle.vx_plan.proofs.IdLemmas.{check_ids_is}
use Rattle.vx_plan.proofs.TreeLemmas.{id_of_tree}

counted_one : (t : Tree) → counted Nodes t ≡ 1
counted_one (values id kinds rows parallel) = refl
counted_one (over id own source) = refl
counted_one (join id kind on_left on_right left right) = refl

all_counted : (ts : List Tree) → sum_by (counted Nodes) ts ≡ length ts
all_counted [] = refl
all_counted (t ∷ ts) =
    let sum : sum_by (counted Nodes) (t ∷ ts) ≡ (0 + counted Nodes t) + sum_by (counted Nodes) ts = sum_by-append (counted Nodes) (t ∷ []) ts in
    omega (arith, sum, counted_one t, all_counted ts)

first_kept : (b : Bool) (name : LimitName) (r : Result Unit Refusal) → (if b then r else Err (P6 name)) ≡ Ok tt → (b ≡ true) × (r ≡ Ok tt)
first_kept true name r h = (refl, h)
first_kept false name r h = absurd (cc)

-- a plan of lawful sizes has at most 64 nodes
pub few_nodes : (t : Tree) → check_sizes t ≡ Ok tt → length (pre_order t) ≤ 64
few_nodes t h =
    let kept = (first_kept (keeps Nodes t) Nodes (check_limits (Columns ∷ Rows ∷ Cells ∷ Depth ∷ []) t) h).0 in
    let counted = all_counted (pre_order t) in
    grind (arith, nat_tests)

-- and lawful columns at every node
pub lawful_columns : (t : Tree) → check_sizes t ≡ Ok tt → keeps_everywhere Columns t ≡ true
lawful_columns t h =
    let rest = (first_kept (keeps Nodes t) Nodes (check_limits (Columns ∷ Rows ∷ Cells ∷ Depth ∷ []) t) h).1 in
    (first_kept (keeps Columns t) Columns (check_limits (Rows ∷ Cells ∷ Depth ∷ []) t) rest).0

forgets : {A B : Type 0} (r : Result A Refusal) (go : Result B Refusal) → on_ok (on_ok r (λ _. Ok (tt {0}))) (λ _. go) ≡ on_ok r (λ _. go)
forgets (Ok a) go = refl
forgets (Err e) go = refl

-- the stages after the sizes, by what the code finds
pub stages : (n : Node) → check_rest (tree n) ≡ on_ok (check_limits (Growth ∷ []) (tree n)) (λ _. on_ok (enter_all (tree n) []) (λ _. on_ok (typed (tree n)) (λ _. on_ok (width (tree n)) (λ w. on_ok (from_one n.id w) (λ _. Ok tt)))))
stages n =
    let last = on_ok (width (tree n)) (λ w. on_ok (from_one n.id w) (λ _. Ok tt)) in
    ap (λ id. on_ok (check_limits (Growth ∷ []) (tree n)) (λ _. on_ok (check_ids (tree n)) (λ _. on_ok (check_types (tree n)) (λ _. on_ok (width (tree n)) (λ w. on_ok (from_one id w) (λ _. Ok tt)))))) (id_of_tree n)
    ∙ ap (λ r. on_ok (check_limits (Growth ∷ []) (tree n)) (λ _. on_ok (check_ids (tree n)) (λ _. r))) (forgets (typed (tree n)) last)
    ∙ ap (λ r. on_ok (check_limits (Growth ∷ []) (tree n)) (λ _. on_ok r (λ _. on_ok (typed (tree n)) (λ _. last)))) (sym (check_ids_is (tree n)))
    ∙ ap (λ r. on_ok (check_limits (Growth ∷ []) (tree n)) (λ _. r)) (forgets (enter_all (tree n) []) (on_ok (typed (tree n)) (λ _. last)))
