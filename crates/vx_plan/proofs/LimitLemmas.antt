-- How an allowance is used up part by part, and what holds at a node and at all below it.
use Rattle.std.proofs.Common.{◌≡◌, ℕ, ◌+◌, ◌-◌, ◌^◌, Bool, is_some, if◌then◌else◌, true, false, ◌&&◌, Option, Some, None, nat_le, arith, refl, ap, sym, ◌∙◌, length, List, ◌++◌, ◌≤◌, subst}
use Rattle.std.specs.List.{list_all}
use Rattle.std.proofs.lemmas.Bool.Decides.{nat_tests}
use Rattle.std.proofs.lemmas.List.Folds.{list_all-append}
use Rattle.vx_plan.specs.declared.node.JoinKind.{JoinKind}
use Rattle.vx_plan.specs.declared.refusal.LimitName.{LimitName}
use Rattle.vx_plan.specs.declared.refusal.LimitName.TheVariants.{Columns, Growth}
use Rattle.vx_plan.specs.Outcome.{on_some}
use Rattle.vx_plan.specs.Tree.{Tree, values, over, join, filter, project, aggregation, order, topn, limit, exchange, pre_order}
use Rattle.vx_plan.specs.Limits.{left_after, total, keeps, where_kept, is_width, kept_width, kept_size, columns, columns_grouped, columns_joined, growth, growth_joined, keeps_at, keeps_everywhere, kept_columns, kept_growth}

and_true : (b : Bool) → (b && true) ≡ b
and_true true = refl
and_true false = refl

and_false : (b : Bool) → (b && false) ≡ false
and_false true = refl
and_false false = refl

-- two parts, one after the other
pub left_after_both : (left n m : ℕ) → left_after left (n + m) ≡ on_some (left_after left n) (λ rest. left_after rest m)
left_after_both left n m = grind (arith, nat_tests)

again : (b r : Bool) → (b && r) ≡ (b && (b && r))
again true r = refl
again false r = refl

-- what holds everywhere holds at the node itself
pub kept_here : (name : LimitName) (t : Tree) → keeps_everywhere name t ≡ (keeps_at name t && keeps_everywhere name t)
kept_here name (values id kinds rows parallel) = again (keeps_at name (values id kinds rows parallel)) true
kept_here name (over id own source) = again (keeps_at name (over id own source)) (list_all (keeps_at name) (pre_order source))
kept_here name (join id kind on_left on_right left right) = again (keeps_at name (join id kind on_left on_right left right)) (list_all (keeps_at name) (pre_order left ++ pre_order right))

same : (name : LimitName) (t : Tree) (n : ℕ) → where_kept (keeps_everywhere name t) n ≡ where_kept (keeps_at name t && keeps_everywhere name t) n
same name t n = ap (λ b. where_kept b n) (kept_here name t)

then_kept : (a : Bool) (n : ℕ) (p : ℕ → Bool) (f : ℕ → ℕ) → on_some (where_kept a n) (λ x. where_kept (p (f x)) (f x)) ≡ where_kept (p (f n) && a) (f n)
then_kept true n p f = ap (λ b. where_kept b (f n)) (sym (and_true (p (f n))))
then_kept false n p f = ap (λ b. where_kept b (f n)) (sym (and_false (p (f n))))

both_kept : (a b : Bool) (n m : ℕ) (p : ℕ → Bool) (f : ℕ → ℕ → ℕ) → on_some (where_kept a n) (λ x. on_some (where_kept b m) (λ y. where_kept (p (f x y)) (f x y))) ≡ where_kept (p (f n m) && (a && b)) (f n m)
both_kept true b n m p f = then_kept b m p (f n)
both_kept false b n m p f = ap (λ c. where_kept c (f n m)) (sym (and_false (p (f n m))))

pub kept_columns_is : (t : Tree) → kept_columns t ≡ where_kept (keeps_everywhere Columns t) (columns t)
kept_columns_is (values id kinds rows parallel) = ap (λ b. where_kept b (length kinds)) (sym (and_true (is_width (length kinds))))
kept_columns_is (over id (filter e) s) = kept_columns_is s ∙ same Columns s (columns s)
kept_columns_is (over id (project es) s) = ap (λ o. on_some o (λ _. kept_width (length es))) (kept_columns_is s) ∙ then_kept (keeps_everywhere Columns s) (columns s) is_width (λ _. length es)
kept_columns_is (over id (aggregation step keys aggregates) s) = ap (λ o. on_some o (λ _. kept_width (columns_grouped step (length keys) aggregates))) (kept_columns_is s) ∙ then_kept (keeps_everywhere Columns s) (columns s) is_width (λ _. columns_grouped step (length keys) aggregates)
kept_columns_is (over id (order keys) s) = kept_columns_is s ∙ same Columns s (columns s)
kept_columns_is (over id (topn count keys) s) = kept_columns_is s ∙ same Columns s (columns s)
kept_columns_is (over id (limit offset count) s) = kept_columns_is s ∙ same Columns s (columns s)
kept_columns_is (over id (exchange kind keys) s) = kept_columns_is s ∙ same Columns s (columns s)
kept_columns_is (join id kind on_left on_right l r) =
    ap (λ o. on_some o (λ a. on_some (kept_columns r) (λ b. kept_width (columns_joined kind a b)))) (kept_columns_is l)
    ∙ ap (λ o. on_some (where_kept (keeps_everywhere Columns l) (columns l)) (λ a. on_some o (λ b. kept_width (columns_joined kind a b)))) (kept_columns_is r)
    ∙ both_kept (keeps_everywhere Columns l) (keeps_everywhere Columns r) (columns l) (columns r) is_width (columns_joined kind)
    ∙ ap (λ b. where_kept (is_width (columns_joined kind (columns l) (columns r)) && b) (columns_joined kind (columns l) (columns r))) (sym (list_all-append (keeps_at Columns) (pre_order l) (pre_order r)))

pub kept_growth_is : (t : Tree) → kept_growth t ≡ where_kept (keeps_everywhere Growth t) (growth t)
kept_growth_is (values id kinds rows parallel) = ap (λ b. where_kept b (length rows)) (sym (and_true (nat_le (length rows) (2 ^ 62))))
kept_growth_is (over id (filter e) s) = kept_growth_is s ∙ same Growth s (growth s)
kept_growth_is (over id (project es) s) = kept_growth_is s ∙ same Growth s (growth s)
kept_growth_is (over id (aggregation step keys aggregates) s) = ap (λ o. on_some o (λ n. kept_size (n + 8))) (kept_growth_is s) ∙ then_kept (keeps_everywhere Growth s) (growth s) (λ n. nat_le n (2 ^ 62)) (λ n. n + 8)
kept_growth_is (over id (order keys) s) = kept_growth_is s ∙ same Growth s (growth s)
kept_growth_is (over id (topn count keys) s) = kept_growth_is s ∙ same Growth s (growth s)
kept_growth_is (over id (limit offset count) s) = kept_growth_is s ∙ same Growth s (growth s)
kept_growth_is (over id (exchange kind keys) s) = kept_growth_is s ∙ same Growth s (growth s)
kept_growth_is (join id kind on_left on_right l r) =
    ap (λ o. on_some o (λ a. on_some (kept_growth r) (λ b. kept_size (growth_joined kind a b)))) (kept_growth_is l)
    ∙ ap (λ o. on_some (where_kept (keeps_everywhere Growth l) (growth l)) (λ a. on_some o (λ b. kept_size (growth_joined kind a b)))) (kept_growth_is r)
    ∙ both_kept (keeps_everywhere Growth l) (keeps_everywhere Growth r) (growth l) (growth r) (λ n. nat_le n (2 ^ 62)) (growth_joined kind)
    ∙ ap (λ b. where_kept (nat_le (growth_joined kind (growth l) (growth r)) (2 ^ 62) && b) (growth_joined kind (growth l) (growth r))) (sym (list_all-append (keeps_at Growth) (pre_order l) (pre_order r)))

-- ---- whether something is left is whether the limit is kept

pub some_left : (left n : ℕ) → is_some (left_after left n) ≡ nat_le n left
some_left left n = elim (nat_le n left) as (λ b. is_some (if b then Some (left - n) else None) ≡ b) [ true ↦ refl | false ↦ refl ]

some_kept : (b : Bool) (n : ℕ) → is_some (where_kept b n) ≡ b
some_kept true n = refl
some_kept false n = refl

pub some_columns : (t : Tree) → is_some (kept_columns t) ≡ keeps_everywhere Columns t
some_columns t = ap is_some (kept_columns_is t) ∙ some_kept (keeps_everywhere Columns t) (columns t)

pub some_growth : (t : Tree) → is_some (kept_growth t) ≡ keeps_everywhere Growth t
some_growth t = ap is_some (kept_growth_is t) ∙ some_kept (keeps_everywhere Growth t) (growth t)

-- the same as answers for a limit's name
pub left_kept : (name of : LimitName) (most : ℕ) (t : Tree) (found : Bool) (left : Option ℕ) → name ≡ of → found ≡ is_some left → left ≡ left_after most (total name t) → found ≡ nat_le (total of t) most
left_kept name of most t found left is e f = e ∙ ap is_some f ∙ some_left most (total name t) ∙ ap (λ n. nat_le (total n t) most) is

pub kept_as : (name of : LimitName) (t : Tree) (found : Bool) → name ≡ of → found ≡ keeps of t → found ≡ keeps name t
kept_as name of t found is e = e ∙ ap (λ n. keeps n t) (sym is)

and_right : (a b : Bool) → (a && b) ≡ true → b ≡ true
and_right true b h = h
and_right false b h = absurd (cc)

and_left : (a b : Bool) → (a && b) ≡ true → a ≡ true
and_left true b h = refl
and_left false b h = absurd (cc)

-- what holds everywhere in a join holds everywhere in its sources
pub kept_left : (name : LimitName) (t : Tree) (id : ℕ) (kind : JoinKind) (a b : List ℕ) (l r : Tree) → t ≡ join id kind a b l r → keeps_everywhere name t ≡ true → keeps_everywhere name l ≡ true
kept_left name t id kind a b l r is h =
    let below = and_right (keeps_at name (join id kind a b l r)) (list_all (keeps_at name) (pre_order l ++ pre_order r)) (ap (keeps_everywhere name) (sym is) ∙ h) in
    and_left (keeps_everywhere name l) (keeps_everywhere name r) (sym (list_all-append (keeps_at name) (pre_order l) (pre_order r)) ∙ below)

pub kept_right : (name : LimitName) (t : Tree) (id : ℕ) (kind : JoinKind) (a b : List ℕ) (l r : Tree) → t ≡ join id kind a b l r → keeps_everywhere name t ≡ true → keeps_everywhere name r ≡ true
kept_right name t id kind a b l r is h =
    let below = and_right (keeps_at name (join id kind a b l r)) (list_all (keeps_at name) (pre_order l ++ pre_order r)) (ap (keeps_everywhere name) (sym is) ∙ h) in
    and_right (keeps_everywhere name l) (keeps_everywhere name r) (sym (list_all-append (keeps_at name) (pre_order l) (pre_order r)) ∙ below)

few : (n : ℕ) → is_width n ≡ true → n ≤ 64
few n h = grind (arith, nat_tests)

-- a join has at most 64 columns
pub few_joined : (t : Tree) (id : ℕ) (kind : JoinKind) (a b : List ℕ) (l r : Tree) (n m : ℕ) → t ≡ join id kind a b l r → keeps_everywhere Columns t ≡ true → n ≡ columns l → m ≡ columns r → columns_joined kind n m ≤ 64
few_joined t id kind a b l r n m is h e f =
    let here = and_left (is_width (columns_joined kind (columns l) (columns r))) (list_all (keeps_at Columns) (pre_order l ++ pre_order r)) (ap (keeps_everywhere Columns) (sym is) ∙ h) in
    subst (λ x. columns_joined kind x m ≤ 64) (sym e) (subst (λ y. columns_joined kind (columns l) y ≤ 64) (sym f) (few (columns_joined kind (columns l) (columns r)) here))
