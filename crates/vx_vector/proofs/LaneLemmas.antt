-- What vectors of lanes give, as the map or the count that it is; and the step of a loop that goes on by whole lanes.
use Rattle.std.proofs.Common.{◌≡◌, ◌∙◌, ℕ, ◌+◌, ◌≤◌, ◌^◌, ◌-◌, Bool, cond, List, [], ◌∷◌, ◌++◌, map, length, take, drop, refl, ap, ap₂, sym, subst, arith, replicate, eqb, leb, w8, tests}
use lib.Lanes.{zip2, sel_l, mask_l, top, chunk, put_chunk}
use mir.Val.{bits, hbits}
use borrow.Rule.Slice.PartMut.{put_mid}
use Rattle.std.specs.Prelude.{not}
use Rattle.std.proofs.lemmas.List.{append_assoc, length-append, length-drop, length-map, length-take-le, take_at, drop_at, drop_all, drop-drop, take-append-drop, map-append, append-nil}
use Rattle.std.proofs.lemmas.Simd.{tops_compared, zip2_splat, put_chunk_is, chunk-drop, length-chunk}
use Rattle.vx_vector.specs.Marks.{strict_mark, strict_marks}

sel_replicated : (p : ℕ → Bool) (xs : List ℕ) (a b : ℕ) → sel_l (map p xs) (replicate (length xs) a) (replicate (length xs) b) ≡ map (λ x. cond (p x) a b) xs
sel_replicated p [] a b = refl
sel_replicated p (x ∷ xs) a b = ap (λ l. cond (p x) a b ∷ l) (sel_replicated p xs a b)

-- a comparison with one value, by which one of two values is picked
pub picked_by : (t : ℕ → ℕ → Bool) (xs : List ℕ) (n y a b : ℕ) → length xs ≡ n
    → sel_l (map (top (hbits w8)) (zip2 (λ p q. cond (t p q) (2 ^ bits w8 - 1) 0) xs (replicate n y))) (replicate n a) (replicate n b) ≡ map (λ x. cond (t x y) a b) xs
picked_by t xs n y a b long =
    ap (λ ms. sel_l ms (replicate n a) (replicate n b)) (tops_compared w8 t xs (replicate n y) ∙ zip2_splat t xs n y long)
    ∙ subst (λ k. sel_l (map (λ x. t x y) xs) (replicate k a) (replicate k b) ≡ map (λ x. cond (t x y) a b) xs) long (sel_replicated (λ x. t x y) xs a b)

-- where the left is picked if it reaches two or the right does not pass it
pub picked_of_two : (ls rs : List ℕ) → sel_l (map (leb 2) ls) ls (sel_l (zip2 leb rs ls) ls rs) ≡ strict_marks ls rs
picked_of_two [] rs = refl
picked_of_two (l ∷ ls) [] = refl
picked_of_two (l ∷ ls) (r ∷ rs) = ap (λ m. strict_mark l r ∷ m) (picked_of_two ls rs)

no_difference : (x y : ℕ) → ◌≡◌ {A = ℕ} (cond (not (eqb x y)) 1 0) 0 → x ≡ y
no_difference x y none = grind (arith, tests)

-- where the mask of differences is empty
pub differ_nowhere : (xs ys : List ℕ) → length xs ≡ length ys → mask_l (zip2 (λ a b. not (eqb a b)) xs ys) ≡ 0 → xs ≡ ys
differ_nowhere [] [] long none = refl
differ_nowhere [] (y ∷ ys) long none = absurd (omega arith)
differ_nowhere (x ∷ xs) [] long none = absurd (omega arith)
differ_nowhere (x ∷ xs) (y ∷ ys) long none = ap₂ (λ a l. a ∷ l) (no_difference x y (omega arith)) (differ_nowhere xs ys (omega arith) (omega arith))

-- a list that was worked on up to a place, once it is stored a few items further
pub stored_further : {X : Type 0} (done more xs ys : List X) (at n : ℕ) → length done ≡ at → length more ≡ n → at + n ≤ length xs → ys ≡ done ++ drop at xs
    → put_chunk at ys more ≡ (done ++ more) ++ drop (at + n) xs
stored_further done more xs ys at n long wide within is =
    let room : at + length more ≤ length ys = omega (arith, ap length is, length-append done (drop at xs), length-drop at xs) in
    let ahead : drop at ys ≡ drop at xs = ap (drop at) is ∙ drop_at done (drop at xs) at long in
    put_chunk_is at ys more room
    ∙ ap₂ (λ p q. p ++ (more ++ q)) (ap (take at) is ∙ take_at done (drop at xs) at long) (ap₂ drop wide ahead ∙ drop-drop n at xs)
    ∙ sym (append_assoc done more (drop (at + n) xs))

pub chunk_ahead : {X : Type 0} (done xs ys : List X) (at n : ℕ) → length done ≡ at → ys ≡ done ++ drop at xs → chunk at n ys ≡ chunk at n xs
chunk_ahead done xs ys at n long is = ap (take n) (ap (drop at) is ∙ drop_at done (drop at xs) at long)

pub take_further : {X : Type 0} (xs : List X) (at n : ℕ) → at + n ≤ length xs → take (at + n) xs ≡ take at xs ++ chunk at n xs
take_further xs at n within =
    ap (take (at + n)) (sym (take-append-drop at xs) ∙ ap (λ l. take at xs ++ l) (chunk-drop at n xs) ∙ sym (append_assoc (take at xs) (chunk at n xs) (drop (at + n) xs)))
    ∙ take_at (take at xs ++ chunk at n xs) (drop (at + n) xs) (at + n) (omega (arith, length-append (take at xs) (chunk at n xs), length-take-le at xs (omega arith), length-chunk at n xs within))

-- the same where each item is rewritten
pub mapped_further : (f : ℕ → ℕ) (xs ys more : List ℕ) (at n : ℕ) → at + n ≤ length xs → ys ≡ map f (take at xs) ++ drop at xs → more ≡ map f (chunk at n ys)
    → put_chunk at ys more ≡ map f (take (at + n) xs) ++ drop (at + n) xs
mapped_further f xs ys more at n within is given =
    let done = map f (take at xs) in
    let long : length done ≡ at = length-map (take at xs) f ∙ length-take-le at xs (omega arith) in
    let further : more ≡ map f (chunk at n xs) = given ∙ ap (map f) (chunk_ahead done xs ys at n long is) in
    let wide : length more ≡ n = ap length further ∙ length-map (chunk at n xs) f ∙ length-chunk at n xs within in
    stored_further done more xs ys at n long wide within is
    ∙ ap (λ l. l ++ drop (at + n) xs) (ap (λ l. done ++ l) further ∙ sym (ap (map f) (take_further xs at n within) ∙ map-append f (take at xs) (chunk at n xs)))

-- a list whose rest was written after its front was worked on
pub written_rest : {X : Type 0} (front ahead xs ys : List X) (at : ℕ) → length front ≡ at → xs ≡ front ++ ahead → put_mid at (length xs - at) xs ys ≡ front ++ ys
written_rest front ahead xs ys at long is =
    ap₂ (λ p q. p ++ (ys ++ q)) (ap (take at) is ∙ take_at front ahead at long) (drop_all (length xs - at) (drop at xs) (omega (arith, length-drop at xs)))
    ∙ ap (λ l. front ++ l) (append-nil ys)
