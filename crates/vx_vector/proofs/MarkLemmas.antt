-- Laws of what is done to marks: lists that are joined or taken further, and single rows.
use Rattle.std.proofs.Common.{◌≡◌, ◌∙◌, ℕ, ◌+◌, ◌<◌, ◌≤◌, Bool, false, cond, List, [], ◌∷◌, ◌++◌, length, take, drop, refl, ap, ap₂, sym, arith, suc, zero, tests}
use lib.Lanes.{chunk, put_chunk}
use Rattle.std.specs.Prelude.{get_or, set, not, nat_le, count_by, ◌||◌}
use Rattle.std.specs.List.{list_all, list_any}
use Rattle.std.proofs.lemmas.List.{append_assoc, length-take-le, drop_more, take_more, set_at, get_or_at, take-append-drop}
use Rattle.std.proofs.lemmas.List.Sums.{sum_by-append}
use Rattle.std.proofs.lemmas.List.Folds.{list_any-append}
use Rattle.std.proofs.lemmas.Simd.{length-chunk}
use Rattle.vx_vector.proofs.LaneLemmas.{stored_further, chunk_ahead, take_further}
use Rattle.vx_vector.specs.Marks.{strict_mark, strict_marks, is_fine}

pub strict_marks-append : (xs ys us vs : List ℕ) → length ys ≡ length xs → strict_marks (xs ++ us) (ys ++ vs) ≡ strict_marks xs ys ++ strict_marks us vs
strict_marks-append [] [] us vs long = refl
strict_marks-append [] (y ∷ ys) us vs long = absurd (omega arith)
strict_marks-append (x ∷ xs) [] us vs long = absurd (omega arith)
strict_marks-append (x ∷ xs) (y ∷ ys) us vs long = ap (λ m. strict_mark x y ∷ m) (strict_marks-append xs ys us vs (omega arith))

pub length-strict_marks : (xs ys : List ℕ) → length ys ≡ length xs → length (strict_marks xs ys) ≡ length xs
length-strict_marks [] [] long = refl
length-strict_marks [] (y ∷ ys) long = absurd (omega arith)
length-strict_marks (x ∷ xs) [] long = absurd (omega arith)
length-strict_marks (x ∷ xs) (y ∷ ys) long = ap suc (length-strict_marks xs ys (omega arith))

-- one row of it
pub get_or-strict_marks : (xs ys : List ℕ) (k d e f : ℕ) → length ys ≡ length xs → k < length xs → get_or (strict_marks xs ys) k f ≡ strict_mark (get_or xs k d) (get_or ys k e)
get_or-strict_marks [] ys k d e f long h = absurd (omega arith)
get_or-strict_marks (x ∷ xs) [] k d e f long h = absurd (omega arith)
get_or-strict_marks (x ∷ xs) (y ∷ ys) zero d e f long h = refl
get_or-strict_marks (x ∷ xs) (y ∷ ys) (suc k) d e f long h = get_or-strict_marks xs ys k d e f (omega arith) (omega arith)

-- a list of marks that was combined with the right ones up to a place, once it is stored a few marks further
pub combined_further : (xs rs ys more : List ℕ) (at n : ℕ) → at + n ≤ length xs → length rs ≡ length xs → ys ≡ strict_marks (take at xs) (take at rs) ++ drop at xs → more ≡ strict_marks (chunk at n ys) (chunk at n rs)
    → put_chunk at ys more ≡ strict_marks (take (at + n) xs) (take (at + n) rs) ++ drop (at + n) xs
combined_further xs rs ys more at n within even is given =
    let done = strict_marks (take at xs) (take at rs) in
    let left : length (take at xs) ≡ at = length-take-le at xs (omega arith) in
    let right : length (take at rs) ≡ at = length-take-le at rs (omega arith) in
    let left-chunk : length (chunk at n xs) ≡ n = length-chunk at n xs within in
    let right-chunk : length (chunk at n rs) ≡ n = length-chunk at n rs (omega arith) in
    let long : length done ≡ at = length-strict_marks (take at xs) (take at rs) (right ∙ sym left) ∙ left in
    let further : more ≡ strict_marks (chunk at n xs) (chunk at n rs) = given ∙ ap (λ l. strict_marks l (chunk at n rs)) (chunk_ahead done xs ys at n long is) in
    let wide : length more ≡ n = ap length further ∙ length-strict_marks (chunk at n xs) (chunk at n rs) (right-chunk ∙ sym left-chunk) ∙ left-chunk in
    stored_further done more xs ys at n long wide within is
    ∙ ap (λ l. l ++ drop (at + n) xs) (ap (λ l. done ++ l) further
    ∙ sym (ap₂ strict_marks (take_further xs at n within) (take_further rs at n (omega arith)) ∙ strict_marks-append (take at xs) (take at rs) (chunk at n xs) (chunk at n rs) (right ∙ sym left)))

-- the step of the plain loop
pub combined_more : (xs rs ys : List ℕ) (i : ℕ) → i < length xs → length rs ≡ length xs → ys ≡ strict_marks (take i xs) (take i rs) ++ drop i xs
    → set ys i (strict_mark (get_or ys i 0) (get_or rs i 0)) ≡ strict_marks (take (i + 1) xs) (take (i + 1) rs) ++ drop (i + 1) xs
combined_more xs rs ys i lt even is =
    let front = strict_marks (take i xs) (take i rs) in
    let left : length (take i xs) ≡ i = length-take-le i xs (omega arith) in
    let right : length (take i rs) ≡ i = length-take-le i rs (omega arith) in
    let long : length front ≡ i = length-strict_marks (take i xs) (take i rs) (right ∙ sym left) ∙ left in
    let parts : ys ≡ front ++ get_or xs i 0 ∷ drop (i + 1) xs = is ∙ ap (λ l. front ++ l) (drop_more xs i 0 lt) in
    let read : get_or ys i 0 ≡ get_or xs i 0 = ap (λ l. get_or l i 0) parts ∙ get_or_at front _ _ 0 i long in
    let mark = strict_mark (get_or xs i 0) (get_or rs i 0) in
    ap₂ (λ l x. set l i (strict_mark x (get_or rs i 0))) parts read ∙ set_at front _ _ mark i long ∙ sym (append_assoc front (mark ∷ []) (drop (i + 1) xs))
    ∙ ap (λ l. l ++ drop (i + 1) xs) (sym (ap₂ strict_marks (take_more xs i 0 lt) (take_more rs i 0 (omega arith)) ∙ strict_marks-append (take i xs) (take i rs) (get_or xs i 0 ∷ []) (get_or rs i 0 ∷ []) (right ∙ sym left)))

pub any_further : (p : ℕ → Bool) (xs : List ℕ) (at n : ℕ) → at + n ≤ length xs → list_any p (take at xs) ≡ false → list_any p (chunk at n xs) ≡ false → list_any p (take (at + n) xs) ≡ false
any_further p xs at n within before here =
    ap (list_any p) (take_further xs at n within) ∙ list_any-append p (take at xs) (chunk at n xs) ∙ ap₂ (λ a b. a || b) before here

pub any_rest : (p : ℕ → Bool) (xs : List ℕ) (at : ℕ) → list_any p (take at xs) ≡ false → list_any p (drop at xs) ≡ list_any p xs
any_rest p xs at before =
    sym (ap (list_any p) (sym (take-append-drop at xs)) ∙ list_any-append p (take at xs) (drop at xs) ∙ ap (λ a. a || list_any p (drop at xs)) before)

pub count_by-append : (p : ℕ → Bool) (xs ys : List ℕ) → count_by p (xs ++ ys) ≡ count_by p xs + count_by p ys
count_by-append p xs ys = sum_by-append (λ x. cond (p x) 1 0) xs ys

pub none_reach : (xs : List ℕ) → not (list_any (nat_le 1) xs) ≡ list_all is_fine xs
none_reach [] = refl
none_reach (zero ∷ xs) = none_reach xs
none_reach (suc x ∷ xs) = grind (arith, tests)
