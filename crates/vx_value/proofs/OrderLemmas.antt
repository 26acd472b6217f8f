-- The laws of the order of values and rows, and what it is at each kind.
use Rattle.std.proofs.Common.{◌≡◌, ◌≢◌, ℕ, ◌+◌, ℤ, Bool, true, false, not, true≢false, if◌then◌else◌, List, [], ◌∷◌, refl, sym, ap, ap₂, ◌∙◌, arith, Ordering, Less, Equal, Greater, nat_cmp, int_cmp}
use mathlib.Core.Bool.{beq}
use Rattle.std.specs.Ordering.{bool_cmp, ordering_then, is_lt, is_gt}
use Rattle.std.specs.List.Sorted.{IsSorted}
use Rattle.std.specs.Cmp.{IsTotalOrder}
use Rattle.std.specs.Cmp.Lexicographic.{slice_cmp}
use Rattle.std.proofs.lemmas.Cmp.{on_total, then_total, back_total, nat_cmp_total, int_cmp_total, nat_list_cmp_total, ranked, int_ranked, tied_itself, upto}
use Rattle.std.proofs.lemmas.List.Sorted.{sorted_far, ranks_by}
use Rattle.vx_value.specs.declared.sorting.SortKey.{SortKey}
use Rattle.vx_value.specs.declared.value.Value.{Value}
use Rattle.vx_value.specs.declared.value.Value.TheVariants as value
use Rattle.vx_value.specs.Value.{is_null}
use Rattle.vx_value.specs.Row.{Row, value_at}
use Rattle.vx_value.specs.Order.{class, number, text, cmp_values, null_place, directed, by_key, cmp_rows, IsSortedBy}

pub cmp_values_total : IsTotalOrder cmp_values
unfolding cmp_values
cmp_values_total = then_total (on_total class nat_cmp_total) (then_total (on_total number int_cmp_total) (on_total text nat_list_cmp_total))

pub directed_total : {X : Type 0} {R : X → X → Ordering} (d : Bool) → IsTotalOrder R → IsTotalOrder (directed d R)
directed_total false total = total
directed_total true total = back_total total

pub by_key_total : (key : SortKey) → IsTotalOrder (by_key key)
unfolding by_key
by_key_total key = then_total (on_total (null_place key) nat_cmp_total) (directed_total key.descending cmp_values_total)

ties_total : {X : Type 0} → IsTotalOrder {K = X} (λ a b. Equal)
ties_total = record { antisymm = λ a b. refl; trans = λ a b c p q. p; congr = λ a b c p. refl }

-- whatever the keys, rows stand in one order
pub cmp_rows_total : (keys : List SortKey) → IsTotalOrder (cmp_rows keys)
cmp_rows_total [] = ties_total
cmp_rows_total (key ∷ keys) = then_total (on_total (λ row. value_at row key.column) (by_key_total key)) (cmp_rows_total keys)

then-Equal : (o : Ordering) → ordering_then o Equal ≡ o
then-Equal Less = refl
then-Equal Equal = refl
then-Equal Greater = refl

pub cmp_values-Bool : (m n : Bool) → cmp_values (value.Bool m) (value.Bool n) ≡ bool_cmp m n
unfolding cmp_values
cmp_values-Bool false false = refl
cmp_values-Bool false true = refl
cmp_values-Bool true false = refl
cmp_values-Bool true true = refl

pub cmp_values-Int : (m n : ℤ) → cmp_values (value.Int m) (value.Int n) ≡ int_cmp m n
unfolding cmp_values
cmp_values-Int m n = then-Equal (int_cmp m n)

pub cmp_values-Text : (s t : List ℕ) → cmp_values (value.Text s) (value.Text t) ≡ slice_cmp nat_cmp s t
unfolding cmp_values
cmp_values-Text s t = refl

pub ruleset value_orders = (cmp_values-Bool, cmp_values-Int, cmp_values-Text)

by_places-apart : (p q first : Bool) (rest : Ordering) → not (beq p q) ≡ true
    → ordering_then (nat_cmp (if p then (if first then 0 else 2) else 1) (if q then (if first then 0 else 2) else 1)) rest ≡ (if beq p first then Less else Greater)
by_places-apart false false first rest h = absurd (true≢false (sym h))
by_places-apart false true false rest h = refl
by_places-apart false true true rest h = refl
by_places-apart true false false rest h = refl
by_places-apart true false true rest h = refl
by_places-apart true true first rest h = absurd (true≢false (sym h))

by_places-alike : (p q first : Bool) (rest : Ordering) → not (beq p q) ≡ false
    → ordering_then (nat_cmp (if p then (if first then 0 else 2) else 1) (if q then (if first then 0 else 2) else 1)) rest ≡ rest
by_places-alike false false first rest h = refl
by_places-alike false true first rest h = absurd (true≢false h)
by_places-alike true false first rest h = absurd (true≢false h)
by_places-alike true true false rest h = refl
by_places-alike true true true rest h = refl

-- a null against a value
pub by_key-apart : (key : SortKey) (v w : Value) (p q : Bool) → p ≡ is_null v → q ≡ is_null w → not (beq p q) ≡ true
    → by_key key v w ≡ (if beq p key.nulls_first then Less else Greater)
unfolding by_key
by_key-apart key v w p q e f h = rw (← e, ← f) (by_places-apart p q key.nulls_first _ h)

-- two values, or two nulls
pub by_key-alike : (key : SortKey) (v w : Value) (p q : Bool) → p ≡ is_null v → q ≡ is_null w → not (beq p q) ≡ false
    → by_key key v w ≡ directed key.descending cmp_values v w
unfolding by_key
by_key-alike key v w p q e f h = rw (← e, ← f) (by_places-alike p q key.nulls_first _ h)

pub ruleset key_orders = (by_key-apart, by_key-alike)

-- ---- values that tie are one value

then_tied : (o p : Ordering) → ordering_then o p ≡ Equal → (o ≡ Equal) × (p ≡ Equal)
then_tied Less p h = absurd (cc)
then_tied Equal p h = (refl, h)
then_tied Greater p h = absurd (cc)

nat_tie : (m n : ℕ) → nat_cmp m n ≡ Equal → m ≡ n
nat_tie m n h = rw h at (ranked m n (nat_cmp m n) refl)

int_tie : (m n : ℤ) → int_cmp m n ≡ Equal → m ≡ n
int_tie m n h = rw h at (int_ranked m n (int_cmp m n) refl)

text_tie : (s t : List ℕ) → slice_cmp nat_cmp s t ≡ Equal → s ≡ t
text_tie [] [] h = refl
text_tie [] (y ∷ t) h = absurd (cc)
text_tie (x ∷ s) [] h = absurd (cc)
text_tie (x ∷ s) (y ∷ t) h =
    let both = then_tied (nat_cmp x y) (slice_cmp nat_cmp s t) h in
    ap₂ ◌∷◌ (nat_tie x y both.0) (text_tie s t both.1)

pub cmp_values-tied : (v w : Value) → cmp_values v w ≡ Equal → v ≡ w
unfolding cmp_values
cmp_values-tied value.Null value.Null h = refl
cmp_values-tied value.Null (value.Bool c) h = absurd (cc)
cmp_values-tied value.Null (value.Int n) h = absurd (cc)
cmp_values-tied value.Null (value.Text t) h = absurd (cc)
cmp_values-tied (value.Bool b) value.Null h = absurd (cc)
cmp_values-tied (value.Bool false) (value.Bool false) h = refl
cmp_values-tied (value.Bool false) (value.Bool true) h = absurd (cc)
cmp_values-tied (value.Bool true) (value.Bool false) h = absurd (cc)
cmp_values-tied (value.Bool true) (value.Bool true) h = refl
cmp_values-tied (value.Bool b) (value.Int n) h = absurd (cc)
cmp_values-tied (value.Bool b) (value.Text t) h = absurd (cc)
cmp_values-tied (value.Int m) value.Null h = absurd (cc)
cmp_values-tied (value.Int m) (value.Bool c) h = absurd (cc)
cmp_values-tied (value.Int m) (value.Int n) h = ap value.Int (int_tie m n (sym (then-Equal (int_cmp m n)) ∙ h))
cmp_values-tied (value.Int m) (value.Text t) h = absurd (cc)
cmp_values-tied (value.Text s) value.Null h = absurd (cc)
cmp_values-tied (value.Text s) (value.Bool c) h = absurd (cc)
cmp_values-tied (value.Text s) (value.Int n) h = absurd (cc)
cmp_values-tied (value.Text s) (value.Text t) h = ap value.Text (text_tie s t h)

-- ---- rows in order

-- a row ties with itself
pub cmp_rows-self : (keys : List SortKey) (row : Row) → cmp_rows keys row row ≡ Equal
cmp_rows-self keys = tied_itself (cmp_rows_total keys)

-- not to come after is transitive
pub cmp_rows-upto : (keys : List SortKey) (a b c : Row) → is_gt (cmp_rows keys a b) ≡ false → is_gt (cmp_rows keys b c) ≡ false → is_gt (cmp_rows keys a c) ≡ false
cmp_rows-upto keys = upto (cmp_rows_total keys)

not_less : (o : Ordering) → is_lt o ≡ false → o ≢ Less
not_less o h e = absurd (true≢false (sym (ap is_lt e) ∙ h))

less_not : (o : Ordering) → o ≢ Less → is_lt o ≡ false
less_not Less h = absurd (h refl)
less_not Equal h = refl
less_not Greater h = refl

-- rows of which none is less than the one before it, as a sort leaves them, are in order at every distance
pub IsSortedBy-from_sort : (keys : List SortKey) (rows : List Row) → IsSorted (cmp_rows keys) rows → IsSortedBy keys rows
IsSortedBy-from_sort keys rows up i j d below within =
    not_less _ (sorted_far (λ a b. is_lt (cmp_rows keys a b)) (ranks_by (cmp_rows_total keys) (λ row. row)) rows up i j d (omega arith) within)

pub sort_from_IsSortedBy : (keys : List SortKey) (rows : List Row) → IsSortedBy keys rows → IsSorted (cmp_rows keys) rows
sort_from_IsSortedBy keys rows sorted k d low within = less_not _ (sorted k (k + 1) d (omega arith) (omega arith))
