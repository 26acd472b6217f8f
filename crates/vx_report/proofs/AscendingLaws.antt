-- A sorted list of the same numbers is the ascending one.
use Rattle.std.proofs.Common.{◌≡◌, ℕ, ◌+◌, ◌<◌, ◌≤◌, Bool, true, false, cond, ltb, List, [], ◌∷◌, get_or, refl, sym, ap, ◌∙◌, arith}
use Rattle.std.specs.Bool.{⊤}
use Rattle.std.specs.List.{All, sum_by}
use Rattle.std.specs.List.Sorted.{IsPermutation, IsSorted, IsNonDecreasing}
use Rattle.std.specs.Ordering.{nat_cmp}
use Rattle.std.proofs.lemmas.Bool.{ltb-true, ltb-false}
use Rattle.std.proofs.lemmas.List.Sums.{sum_by-cons}
use Rattle.std.proofs.lemmas.List.Elements.{All-nil, All-cons, All-head, All-tail}
use Rattle.std.proofs.lemmas.List.Sorted.{sum_by-IsPermutation, IsNonDecreasingBy-from_sort}
use Rattle.vx_report.specs.Ascending.{placed, ascending}
use Prim.Native.Nat.{suc}

-- no number is greater than a later one
abbrev Rises : List ℕ → Type 0
Rises [] = ⊤
Rises (x ∷ xs) = All (λ y. x ≤ y) xs × Rises xs

-- ---- the ascending list rises

lowered : (x y : ℕ) (ys : List ℕ) → x ≤ y → All (λ z. y ≤ z) ys → All (λ z. x ≤ z) ys
lowered x y ys below above = λ k d inside. (let next : y ≤ get_or ys k d = above k d inside in omega arith)

All-placed : (P : ℕ → Type 0) (x : ℕ) (ys : List ℕ) → P x → All P ys → All P (placed x ys)
All-placed P x [] p all = All-cons P x [] p all
All-placed P x (y ∷ ys) p all =
    elim (ltb x y) as (λ b. All P (cond b (x ∷ y ∷ ys) (y ∷ placed x ys))) [
      | true ↦ All-cons P x (y ∷ ys) p all
      | false ↦ All-cons P y (placed x ys) (All-head P y ys all) (All-placed P x ys p (All-tail P y ys all))
    ]

Rises-placed : (x : ℕ) (ys : List ℕ) → Rises ys → Rises (placed x ys)
Rises-placed x [] rises = (All-nil (λ y. x ≤ y), tt)
Rises-placed x (y ∷ ys) rises =
    elim (ltb x y) as (λ b. ltb x y ≡ b → Rises (cond b (x ∷ y ∷ ys) (y ∷ placed x ys))) [
      | true ↦ λ e. (let below : x < y = ltb-true x y e in (All-cons (λ z. x ≤ z) y ys (omega arith) (lowered x y ys (omega arith) rises.0), rises))
      | false ↦ λ e. (All-placed (λ z. y ≤ z) x ys (ltb-false x y e) rises.0, Rises-placed x ys rises.1)
    ] refl

Rises-ascending : (xs : List ℕ) → Rises (ascending xs)
Rises-ascending [] = tt
Rises-ascending (x ∷ xs) = Rises-placed x (ascending xs) (Rises-ascending xs)

-- ---- it has the same numbers

sum_by-placed : (f : ℕ → ℕ) (x : ℕ) (ys : List ℕ) → sum_by f (placed x ys) ≡ f x + sum_by f ys
sum_by-placed f x [] = sum_by-cons f x []
sum_by-placed f x (y ∷ ys) =
    elim (ltb x y) as (λ b. sum_by f (cond b (x ∷ y ∷ ys) (y ∷ placed x ys)) ≡ f x + sum_by f (y ∷ ys)) [
      | true ↦ sum_by-cons f x (y ∷ ys)
      | false ↦ rw (sum_by-cons f y (placed x ys), sum_by-cons f y ys, sum_by-placed f x ys) (omega arith)
    ]

sum_by-ascending : (f : ℕ → ℕ) (xs : List ℕ) → sum_by f (ascending xs) ≡ sum_by f xs
sum_by-ascending f [] = refl
sum_by-ascending f (x ∷ xs) = rw (sum_by-placed f x (ascending xs), sum_by-cons f x xs, sum_by-ascending f xs) refl

-- ---- two lists that rise and have the same numbers are one

-- how often a test holds, as a number to be summed
abbrev mark : Bool → ℕ
mark true = 1
mark false = 0

mark_at_least : (x y : ℕ) → x ≤ y → mark (ltb y x) ≡ 0
mark_at_least x y at_least =
    elim (ltb y x) as (λ b. ltb y x ≡ b → mark b ≡ 0) [
      | true ↦ λ e. absurd (let below : y < x = ltb-true y x e in omega arith)
      | false ↦ λ e. refl
    ] refl

none_below : (x : ℕ) (ys : List ℕ) → All (λ y. x ≤ y) ys → sum_by (λ y. mark (ltb y x)) ys ≡ 0
none_below x [] all = refl
none_below x (y ∷ ys) all =
    rw (sum_by-cons (λ z. mark (ltb z x)) y ys, mark_at_least x y (All-head (λ z. x ≤ z) y ys all), none_below x ys (All-tail (λ z. x ≤ z) y ys all)) refl

-- the first number of one is at most that of the other
least : (x y : ℕ) (xs ys : List ℕ) → All (λ z. x ≤ z) xs → ((f : ℕ → ℕ) → sum_by f (x ∷ xs) ≡ sum_by f (y ∷ ys)) → x ≤ y
least x y xs ys above same =
    elim (ltb y x) as (λ b. ltb y x ≡ b → mark b + sum_by (λ z. mark (ltb z x)) ys ≡ 0 → x ≤ y) [
      | true ↦ λ e none. absurd (omega arith)
      | false ↦ λ e none. ltb-false y x e
    ] refl (sym (sum_by-cons (λ z. mark (ltb z x)) y ys) ∙ sym (same (λ z. mark (ltb z x))) ∙ none_below x (x ∷ xs) (All-cons (λ z. x ≤ z) x xs (omega arith) above))

one_list : (xs ys : List ℕ) → Rises xs → Rises ys → ((f : ℕ → ℕ) → sum_by f xs ≡ sum_by f ys) → xs ≡ ys
one_list [] [] rises rises' same = refl
one_list [] (y ∷ ys) rises rises' same = absurd (let counts : 0 ≡ 1 + sum_by (λ z. 1) ys = same (λ z. 1) ∙ sum_by-cons (λ z. 1) y ys in omega arith)
one_list (x ∷ xs) [] rises rises' same = absurd (let counts : 0 ≡ 1 + sum_by (λ z. 1) xs = sym (same (λ z. 1)) ∙ sum_by-cons (λ z. 1) x xs in omega arith)
one_list (x ∷ xs) (y ∷ ys) rises rises' same =
    let low : x ≤ y = least x y xs ys rises.0 same in
    let high : y ≤ x = least y x ys xs rises'.0 (λ f. sym (same f)) in
    let first : x ≡ y = omega arith in
    let rest : xs ≡ ys = one_list xs ys rises.1 rises'.1 (λ f. (let sums : f x + sum_by f xs ≡ f y + sum_by f ys = sym (sum_by-cons f x xs) ∙ same f ∙ sum_by-cons f y ys in let equal : f x ≡ f y = ap f first in omega arith)) in
    rw (first, rest) refl

-- ---- a sorted list rises

Rises-from_sorted : (xs : List ℕ) → IsNonDecreasing xs → Rises xs
Rises-from_sorted [] sorted = tt
Rises-from_sorted (x ∷ xs) sorted =
    (λ k d inside. sorted 0 (suc k) d (omega arith) (omega arith), Rises-from_sorted xs (λ i j d before inside. sorted (suc i) (suc j) d (omega arith) (omega arith)))

-- what a sort gives
pub sorted_is_ascending : (xs ys : List ℕ) → IsPermutation xs ys → IsSorted nat_cmp ys → ys ≡ ascending xs
sorted_is_ascending xs ys same sorted =
    one_list ys (ascending xs) (Rises-from_sorted ys (IsNonDecreasingBy-from_sort (λ x. x) ys sorted)) (Rises-ascending xs)
    (λ f. sum_by-IsPermutation f xs ys same ∙ sym (sum_by-ascending f xs))
