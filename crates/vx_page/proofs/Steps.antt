-- Bytes of a list's items, one item after another.
use Rattle.std.proofs.Common.{◌≡◌, ℕ, zero, suc, ◌+◌, ◌≤◌, ◌<◌, List, [], ◌∷◌, ◌++◌, length, get_or, take, is_ok, cond, Result, Ok, Err, OnOk, sym, ap, subst, ◌∙◌, arith, length-append, append_assoc}
use Rattle.std.specs.List.{flat_map}
use Rattle.std.proofs.lemmas.List.{take_more, flat_map_more}

within_all : {X : Type 0} (f : X → List ℕ) (xs : List X) (i : ℕ) (d : X) → i < length xs → length (flat_map f (take i xs)) + length (f (get_or xs i d)) ≤ length (flat_map f xs)
within_all f [] i d lt = absurd (omega arith)
within_all f (x ∷ xs) zero d lt = omega (arith, length-append (f x) (flat_map f xs))
within_all f (x ∷ xs) (suc i) d lt =
    let rest = within_all f xs i d (omega arith) in
    omega (arith, rest, length-append (f x) (flat_map f xs), length-append (f x) (flat_map f (take i xs)))

-- the first items and the next one have at most what all have
pub within : {X : Type 0} (f : X → List ℕ) (xs : List X) (i : ℕ) (x : X) → i < length xs → x ≡ get_or xs i x → length (flat_map f (take i xs)) + length (f x) ≤ length (flat_map f xs)
within f xs i x lt here = subst (λ y. length (flat_map f (take i xs)) + length (f y) ≤ length (flat_map f xs)) (sym here) (within_all f xs i x lt)

-- the bytes of one item more
pub more : {X : Type 0} (f : X → List ℕ) (front now new : List ℕ) (xs : List X) (i : ℕ) (x : X) → i < length xs → x ≡ get_or xs i x → now ≡ front ++ flat_map f (take i xs) → new ≡ now ++ f x
    → new ≡ front ++ flat_map f (take (i + 1) xs)
more {X = X} f front now new xs i x lt here so_far pushed =
    let next : take (i + 1) xs ≡ take i xs ++ x ∷ [] = take_more xs i x lt ∙ ap (λ (y : X). take i xs ++ y ∷ []) (sym here) in
    pushed ∙ ap (λ (bytes : List ℕ). bytes ++ f x) so_far ∙ flat_map_more f front (take i xs) x ∙ ap (λ (ys : List X). front ++ flat_map f ys) (sym next)

-- a byte and then others, as two pushes
pub byte_first : {T E : Type 0} (r : Result T E) (old one part all new : List ℕ) (b : ℕ) → one ≡ old ++ b ∷ [] → part ≡ all → new ≡ cond (is_ok r) (one ++ part) one → OnOk r (new ≡ old ++ b ∷ all)
byte_first (Ok done) old one part all new b first is second = second ∙ ap (λ (bytes : List ℕ). bytes ++ part) first ∙ append_assoc old (b ∷ []) part ∙ ap (λ (bytes : List ℕ). old ++ b ∷ bytes) is
byte_first (Err e) old one part all new b first is second = tt
