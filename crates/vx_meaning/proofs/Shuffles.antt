-- What holds of two lists that differ in one exchange of neighbors holds of every two lists with the same items.
use Rattle.std.proofs.Common.{◌≡◌, ℕ, ◌<◌, List, [], ◌∷◌, length, get_or, set, refl, sym, ap, ◌∙◌, subst, arith, cond, true, false, Bool, filter}
use Rattle.std.specs.List.{swap, fold}
use Rattle.std.specs.List.Sorted.{IsPermutation}
use Rattle.std.proofs.lemmas.List.Sorted.{IsPermutation-keeps, IsPermutation-refl, IsPermutation-cons, IsPermutation-swap, IsPermutation-trans}
use Prim.Native.Nat.{zero, suc}

any-default : {X : Type 0} (xs : List X) (j : ℕ) (d e : X) → j < length xs → get_or xs j d ≡ get_or xs j e
any-default [] j d e h = absurd (omega arith)
any-default (x ∷ xs) zero d e h = refl
any-default (x ∷ xs) (suc j) d e h = any-default xs j d e (omega arith)

swap_is : {X : Type 0} (xs : List X) (i j : ℕ) (d : X) → i < length xs → j < length xs → set (set xs i (get_or xs j d)) j (get_or xs i d) ≡ swap xs i j
swap_is [] i j d li lj = absurd (omega arith)
swap_is (e ∷ ys) i j d li lj = λ k. set (set (e ∷ ys) i (any-default (e ∷ ys) j d e lj k)) j (any-default (e ∷ ys) i d e li k)

-- the principle: a relation that is kept by a first item, by an exchange of the first two, and one after the other
module _ {X : Type 0} (R : List X → List X → Type 0) (same : (xs : List X) → R xs xs) (under : (x : X) (xs ys : List X) → R xs ys → R (x ∷ xs) (x ∷ ys))
    (turn : (x y : X) (xs : List X) → R (x ∷ y ∷ xs) (y ∷ x ∷ xs)) (again : (xs ys zs : List X) → R xs ys → R ys zs → R xs zs) where
  exchanged : (x : X) (l : List X) (j : ℕ) (d : X) → j < length l → R (x ∷ l) (get_or l j d ∷ set l j x)
  exchanged x [] j d h = absurd (omega arith)
  exchanged x (y ∷ m) zero d h = turn x y m
  exchanged x (y ∷ m) (suc k) d h =
      again (x ∷ y ∷ m) (y ∷ x ∷ m) _ (turn x y m) (again (y ∷ x ∷ m) (y ∷ get_or m k d ∷ set m k x) _ (under y (x ∷ m) (get_or m k d ∷ set m k x) (exchanged x m k d (omega arith))) (turn y (get_or m k d) (set m k x)))

  swapped : (l : List X) (i j : ℕ) → i < length l → j < length l → R l (swap l i j)
  swapped [] i j p q = absurd (omega arith)
  swapped (x ∷ l) zero zero p q = same (x ∷ l)
  swapped (x ∷ l) zero (suc j) p q = exchanged x l j x (omega arith)
  swapped (x ∷ l) (suc i) zero p q = exchanged x l i x (omega arith)
  swapped (x ∷ l) (suc i) (suc j) p q = under x l _ (subst (R l) (sym (swap_is l i j x (omega arith) (omega arith))) (swapped l i j (omega arith) (omega arith)))

  pub shuffled : (xs ys : List X) → IsPermutation xs ys → R xs ys
  shuffled xs ys h = IsPermutation-keeps xs (R xs) (same xs) (λ l i j p q so_far. again xs l (swap l i j) so_far (swapped l i j p q)) ys h

-- a fold whose steps may change places
pub fold-shuffled : {A X : Type 0} (f : A → X → A) → ((a : A) (x y : X) → f (f a x) y ≡ f (f a y) x) → (xs ys : List X) → IsPermutation xs ys → (a : A) → fold f a xs ≡ fold f a ys
fold-shuffled {A} {X} f turns = shuffled (λ xs ys. (a : A) → fold f a xs ≡ fold f a ys) (λ xs a. refl) (λ x xs ys h a. h (f a x)) (λ x y xs a. ap (λ b. fold f b xs) (turns a x y)) (λ xs ys zs p q a. p a ∙ q a)

front-turned : {X : Type 0} (x y : X) (xs : List X) → IsPermutation (x ∷ y ∷ xs) (y ∷ x ∷ xs)
front-turned x y xs = IsPermutation-swap (x ∷ y ∷ xs) (y ∷ x ∷ xs) 0 1 (omega arith) (omega arith) refl

filter-under : {X : Type 0} (b : Bool) (x : X) (us vs : List X) → IsPermutation us vs → IsPermutation (cond b (x ∷ us) us) (cond b (x ∷ vs) vs)
filter-under true x us vs h = IsPermutation-cons x us vs h
filter-under false x us vs h = h

filter-turned : {X : Type 0} (b c : Bool) (x y : X) (us : List X) → IsPermutation (cond b (x ∷ cond c (y ∷ us) us) (cond c (y ∷ us) us)) (cond c (y ∷ cond b (x ∷ us) us) (cond b (x ∷ us) us))
filter-turned true true x y us = front-turned x y us
filter-turned true false x y us = IsPermutation-refl (x ∷ us)
filter-turned false true x y us = IsPermutation-refl (y ∷ us)
filter-turned false false x y us = IsPermutation-refl us

pub filter-shuffled : {X : Type 0} (test : X → Bool) (xs ys : List X) → IsPermutation xs ys → IsPermutation (filter test xs) (filter test ys)
filter-shuffled test = shuffled (λ xs ys. IsPermutation (filter test xs) (filter test ys)) (λ xs. IsPermutation-refl (filter test xs)) (λ x xs ys h. filter-under (test x) x (filter test xs) (filter test ys) h)
    (λ x y xs. filter-turned (test x) (test y) x y (filter test xs)) (λ xs ys zs p q. IsPermutation-trans (filter test xs) (filter test ys) (filter test zs) p q)
