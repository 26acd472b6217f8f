-- The first so many numbers are a selection.
use Rattle.std.proofs.Common.{◌≡◌, ◌∙◌, ℕ, zero, suc, ◌+◌, ◌<◌, List, [], ◌∷◌, ◌++◌, refl, ap, ap₂, sym, subst, add-one, arith, tests, Bool, true, false, ◌&&◌, eqb, get_or, length}
use Rattle.std.specs.Prelude.{nat_lt, IsTrue, ◌↔◌}
use Rattle.std.specs.List.{range_with_len}
use Rattle.std.proofs.lemmas.List.FromFn.{get_or-range_with_len, length-range_with_len}
use Rattle.vx_vector.specs.Selection.{ascends, IsSelection}

range_suc : (a n j : ℕ) → a + n ≡ j → range_with_len a (suc n) ≡ range_with_len a n ++ j ∷ []
range_suc a zero j e =
    let same : a ≡ j = omega arith in
    ap (λ (k : ℕ). k ∷ []) same
range_suc a (suc n) j e = ap (λ l. a ∷ l) (range_suc (a + 1) n j (omega arith))

pub range_more : (a n j : ℕ) → a + n ≡ j → range_with_len a (n + 1) ≡ range_with_len a n ++ j ∷ []
range_more a n j e = rw add-one (range_suc a n j e)

less_than_next : (a : ℕ) → nat_lt a (a + 1) ≡ true
less_than_next a = grind arith

ascends-range : (a n : ℕ) → ascends (range_with_len a n) ≡ true
ascends-range a zero = refl
ascends-range a (suc zero) = refl
ascends-range a (suc (suc n)) = rw (less_than_next a) (ascends-range (a + 1) (suc n))

first_at : (k n : ℕ) → k < n → get_or (range_with_len 0 n) k 0 ≡ k
first_at k n h =
    let none : 0 + k ≡ k = omega arith in
    get_or-range_with_len 0 n k 0 h ∙ none

pub range_is_selection : (n : ℕ) (places : List ℕ) → places ≡ range_with_len 0 n → IsSelection true places
range_is_selection n places e = rw e (record {
  up = ascends-range 0 n;
  each = (λ _. ap (range_with_len 0) (sym (length-range_with_len 0 n)), λ _. refl);
})

-- a place among the first ones is its own number
pub own_place : (places : List ℕ) (n : ℕ) → places ≡ range_with_len 0 n → (k : ℕ) → k < length places → get_or places k 0 ≡ k
own_place places n all k h =
    ap (λ l. get_or l k 0) all ∙ first_at k n (omega (arith, ap length all, length-range_with_len 0 n))

pub ranges_joined : (a n m j s : ℕ) → a + n ≡ j → n + m ≡ s → range_with_len a s ≡ range_with_len a n ++ range_with_len j m
ranges_joined a zero m j s e f =
    let same : a ≡ j = omega arith in
    let all : s ≡ m = omega arith in
    ap₂ (λ (k t : ℕ). range_with_len k t) same all
ranges_joined a (suc n) m j zero e f = absurd (omega arith)
ranges_joined a (suc n) m j (suc s) e f = ap (λ l. a ∷ l) (ranges_joined (a + 1) n m j s (omega arith) (omega arith))

-- so many places are all of so many rows
pub are_all : (places seen : List ℕ) (m n : ℕ) (whole : Bool) → (IsTrue whole ↔ (seen ≡ range_with_len 0 (length seen))) → places ≡ seen → m ≡ n → IsTrue (whole && eqb (length places) m) ↔ (seen ≡ range_with_len 0 n)
are_all places seen m n true own same count =
    let long : length places ≡ length seen = ap length same in (
      λ (even : eqb (length places) m ≡ true).
          let ends : length seen ≡ n = grind (arith, tests) in
          subst (λ (k : ℕ). seen ≡ range_with_len 0 k) ends (own.0 refl),
      λ (all : seen ≡ range_with_len 0 n).
          let ends : length seen ≡ n = ap length all ∙ length-range_with_len 0 n in
          let even : eqb (length places) m ≡ true = grind (arith, tests) in even,
    )
are_all places seen m n false own same count = (
  λ (none : false ≡ true). absurd (cc),
  λ (all : seen ≡ range_with_len 0 n).
      let ends : n ≡ length seen = sym (ap length all ∙ length-range_with_len 0 n) in
      own.1 (subst (λ (k : ℕ). seen ≡ range_with_len 0 k) ends all),
)
