-- Reading one thing after another: as a loop does it, and what it shows.
use Rattle.std.proofs.Common.{◌≡◌, ℕ, suc, ◌+◌, ◌≤◌, ◌<◌, List, [], ◌∷◌, ◌++◌, length, get_or, drop, replicate, Result, Ok, Err, All, refl, sym, ap, subst, ◌∙◌, append_assoc}
use Rattle.std.specs.List.{flat_map}
use Rattle.std.proofs.lemmas.List.{append-nil, at_drop_more, at_drop_all}
use Rattle.std.proofs.lemmas.List.Elements.{All-nil, All-cons, All-head, All-tail}
use Rattle.vx_page.specs.declared.error.PageError.{PageError}
use Rattle.vx_page.specs.declared.error.PageError.TheVariants as errors
use Rattle.vx_page.specs.Page.{Pairs}
use Rattle.vx_page.specs.Reading.{Read, ◌>>=◌, Fails, in_turn}

-- ---- a loop

-- what is still read, behind what was read before
abbrev pub behind : {B : Type 0} → List B → Read (List B) → Read (List B)
behind before still = still >>= λ more. Ok (before ++ more.0, more.1)

regroup : {B : Type 0} (front : List B) (y : B) (read : Read (List B)) → behind front (read >>= λ x. Ok (y ∷ x.0, x.1)) ≡ behind (front ++ y ∷ []) read
regroup {B = B} front y (Ok x) = ap (λ (ys : List B). Ok (ys, x.1)) (simp append_assoc)
regroup front y (Err at) = refl

pub goes_on : {A B : Type 0} (read : A → List ℕ → Read B) (front : List B) (xs : List A) (i : ℕ) (x : A) (bytes : List ℕ) (y : B) (after : List ℕ) (total : Read (List B)) → i < length xs → get_or xs i x ≡ x
    → read x bytes ≡ Ok (y, after) → behind front (in_turn read (drop i xs) bytes) ≡ total → behind (front ++ y ∷ []) (in_turn read (drop (i + 1) xs) after) ≡ total
unfolding in_turn
goes_on read front xs i x bytes y after total lt here h so_far =
    let k : behind front (in_turn read (drop i xs) bytes) ≡ behind front (in_turn read (get_or xs i x ∷ drop (i + 1) xs) bytes) = at_drop_more (λ rest. behind front (in_turn read rest bytes)) xs i x lt in
    let one : behind front (in_turn read (get_or xs i x ∷ drop (i + 1) xs) bytes) ≡ behind (front ++ y ∷ []) (in_turn read (drop (i + 1) xs) after) = rw (here, h) (regroup front y (in_turn read (drop (i + 1) xs) after)) in
    sym (k ∙ one) ∙ so_far

pub ends : {A B : Type 0} (read : A → List ℕ → Read B) (e : PageError) (front : List B) (xs : List A) (i : ℕ) (x : A) (bytes : List ℕ) (total : Read (List B)) → i < length xs → get_or xs i x ≡ x
    → Fails e (read x bytes) → behind front (in_turn read (drop i xs) bytes) ≡ total → Fails e total
unfolding in_turn
ends read errors.NoMemory front xs i x bytes total lt here h so_far = tt
ends read (errors.Bad at) front xs i x bytes total lt here h so_far =
    let k : behind front (in_turn read (drop i xs) bytes) ≡ behind front (in_turn read (get_or xs i x ∷ drop (i + 1) xs) bytes) = at_drop_more (λ rest. behind front (in_turn read rest bytes)) xs i x lt in
    let one : behind front (in_turn read (get_or xs i x ∷ drop (i + 1) xs) bytes) ≡ Err at = rw (here, h) refl in
    sym so_far ∙ k ∙ one

pub is_done : {A B : Type 0} (read : A → List ℕ → Read B) (front : List B) (xs : List A) (i : ℕ) (bytes : List ℕ) (total : Read (List B)) → length xs ≤ i → behind front (in_turn read (drop i xs) bytes) ≡ total → total ≡ Ok (front, bytes)
unfolding in_turn
is_done {B = B} read front xs i bytes total le so_far =
    sym so_far ∙ at_drop_all (λ rest. behind front (in_turn read rest bytes)) xs i le ∙ ap (λ (ys : List B). Ok (ys, bytes)) (append-nil front)

-- ---- what it shows

abbrev pub IsByte : ℕ → Type 0
IsByte b = b < 256

abbrev pub AreBytes : List ℕ → Type 0
AreBytes = All IsByte

-- the value of a step that did not fail
pub step_ok : {A B : Type 0} (r : Result A ℕ) (f : A → Result B ℕ) (y : B) → (r >>= f) ≡ Ok y → (x : A) × (r ≡ Ok x) × (f x ≡ Ok y)
step_ok (Ok x) f y e = (x, refl, e)
step_ok (Err at) f y e = absurd cc

-- an answer that is no fault
abbrev pub got : {A : Type 0} → A → Result A ℕ
got x = Ok x

pub got_is : {A : Type 0} (x y : A) → got x ≡ got y → x ≡ y
got_is x y same = cc

-- a text that a reader took from the front of these bytes, and what it left
pub record TakesOff (bytes text rest : List ℕ) : Type 0 where
  pub parts : bytes ≡ text ++ rest
  pub left_fits : AreBytes rest

-- two readers one after the other
pub both_taken : (bytes one between two rest : List ℕ) → TakesOff bytes one between → TakesOff between two rest → TakesOff bytes (one ++ two) rest
both_taken bytes one between two rest first second = record {
  parts = first.parts ∙ (ap (λ (tail : List ℕ). one ++ tail) second.parts ∙ sym (append_assoc one two rest));
  left_fits = second.left_fits;
}

-- each that is read stands there, spelled so, and is related to what it was read for
pub turns_take : {A B : Type 0} (read : A → List ℕ → Read B) (spell : B → List ℕ) (R : A → B → Type 0)
    → ((x : A) (bytes : List ℕ) (y : B × List ℕ) → AreBytes bytes → read x bytes ≡ Ok y → TakesOff bytes (spell y.0) y.1 × R x y.0)
    → (xs : List A) (bytes : List ℕ) (ys : List B × List ℕ) → AreBytes bytes → in_turn read xs bytes ≡ Ok ys → TakesOff bytes (flat_map spell ys.0) ys.1 × Pairs R xs ys.0
unfolding in_turn
turns_take {B = B} read spell R takes [] bytes ys fits e =
    subst (λ (y : List B × List ℕ). TakesOff bytes (flat_map spell y.0) y.1 × Pairs R [] y.0) (got_is ([], bytes) ys e) (record { parts = refl; left_fits = fits }, tt)
turns_take {B = B} read spell R takes (x ∷ xs) bytes ys fits e =
    let a = step_ok (read x bytes) (λ first. in_turn read xs first.1 >>= λ others. Ok (first.0 ∷ others.0, others.1)) ys e in
    let b = step_ok (in_turn read xs a.0.1) (λ others. Ok (a.0.0 ∷ others.0, others.1)) ys a.2 in
    let first = takes x bytes a.0 fits a.1 in
    let second = turns_take read spell R takes xs a.0.1 b.0 first.0.left_fits b.1 in
    let both = both_taken bytes (spell a.0.0) a.0.1 (flat_map spell b.0.0) b.0.1 first.0 second.0 in
    let made : List B × List ℕ = (a.0.0 ∷ b.0.0, b.0.1) in
    subst (λ (y : List B × List ℕ). TakesOff bytes (flat_map spell y.0) y.1 × Pairs R (x ∷ xs) y.0) (got_is made ys b.2) (both, (first.1, second.1))

-- what is spelled so is read
pub turns_again : {A B : Type 0} (read : A → List ℕ → Read B) (spell : B → List ℕ) (R : A → B → Type 0)
    → ((x : A) (y : B) (rest : List ℕ) → R x y → read x (spell y ++ rest) ≡ Ok (y, rest))
    → (xs : List A) (ys : List B) (rest : List ℕ) → Pairs R xs ys → in_turn read xs (flat_map spell ys ++ rest) ≡ Ok (ys, rest)
unfolding in_turn
turns_again read spell R again [] [] rest pairs = refl
turns_again read spell R again [] (y ∷ ys) rest pairs = absurd pairs
turns_again read spell R again (x ∷ xs) [] rest pairs = absurd pairs
turns_again read spell R again (x ∷ xs) (y ∷ ys) rest pairs =
    let regrouped : flat_map spell (y ∷ ys) ++ rest ≡ spell y ++ (flat_map spell ys ++ rest) = append_assoc (spell y) (flat_map spell ys) rest in
    ap (in_turn read (x ∷ xs)) regrouped ∙ rw (again x y (flat_map spell ys ++ rest) pairs.0, turns_again read spell R again xs ys rest pairs.1) refl

-- ---- as many as a number says

pub pairs_replicate : {B : Type 0} (R : B → Type 0) (x : ℕ) (ys : List B) → All R ys → Pairs (λ (x : ℕ) y. R y) (replicate (length ys) x) ys
pairs_replicate R x [] all = tt
pairs_replicate R x (y ∷ ys) all = (All-head R y ys all, pairs_replicate R x ys (All-tail R y ys all))

pub replicate_pairs : {B : Type 0} (R : B → Type 0) (xs : List ℕ) (ys : List B) → Pairs (λ (x : ℕ) y. R y) xs ys → (length ys ≡ length xs) × All R ys
replicate_pairs R [] [] pairs = (refl, All-nil R)
replicate_pairs R [] (y ∷ ys) pairs = absurd pairs
replicate_pairs R (x ∷ xs) [] pairs = absurd pairs
replicate_pairs R (x ∷ xs) (y ∷ ys) pairs = let rest = replicate_pairs R xs ys pairs.1 in (ap suc rest.0, All-cons R y ys pairs.0 rest.1)
