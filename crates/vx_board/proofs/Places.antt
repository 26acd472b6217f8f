-- Sums over a list in which one place changes, where the place is read by `get_elem?`.
use Rattle.std.proofs.Common.{◌≡◌, ℕ, zero, suc, ◌+◌, ◌<◌, ◌≤◌, List, [], ◌∷◌, length, get_or, set, sum_by, sym, subst, arith}
use mathlib.Core.Option.{some, some-injective, some-ne-none}
use lib.ListN.{get_elem?}
use Rattle.std.proofs.lemmas.List.Sums.{sum_by-set, get_or-le-sum_by}

module _ {A : Type 0} where
  -- what stands at a place
  pub at_place : (xs : List A) (i : ℕ) (a : A) → get_elem? xs i ≡ some a
      → (i < length xs) × (get_or xs i a ≡ a)
  at_place [] i a e = absurd (some-ne-none a (sym e))
  at_place (x ∷ xs) zero a e = (omega arith, some-injective x a e)
  at_place (x ∷ xs) (suc i) a e = let t = at_place xs i a e in (omega (arith, t.0), t.1)

  -- the sum after a place has changed
  pub sum_by-changed : (f : A → ℕ) (xs : List A) (i : ℕ) (a b : A) → get_elem? xs i ≡ some a
      → sum_by f (set xs i b) + f a ≡ sum_by f xs + f b
  sum_by-changed f xs i a b e =
      let t = at_place xs i a e in
      subst (λ (c : A). sum_by f (set xs i b) + f c ≡ sum_by f xs + f b) t.1
      (sum_by-set f xs i b a t.0)

  -- a place has no more than all places together
  pub part-le-sum_by : (f : A → ℕ) (xs : List A) (i : ℕ) (a : A) → get_elem? xs i ≡ some a
      → f a ≤ sum_by f xs
  part-le-sum_by f xs i a e =
      let t = at_place xs i a e in
      subst (λ (c : A). f c ≤ sum_by f xs) t.1 (get_or-le-sum_by f xs i a t.0)
