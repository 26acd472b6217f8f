-- The seals of a file, after a change of the list that has them.
use Rattle.std.proofs.Common.{◌≡◌, ℕ, zero, suc, ◌<◌, List, Vec, [], ◌∷◌, ◌++◌, length, get_or, set, Some, slice_get, Result, Ok, Err, OnErr, refl, sym, ap, ◌∙◌, arith}
use Rattle.std.specs.declared.alloc.Global.{Global}
use Rattle.std.proofs.lemmas.List.{get_or-set_same, get_or-set_other, map-set, length-map}
use Rattle.vx_page.specs.declared.seals.Seal.{Seal}
use Rattle.vx_page.specs.Sealed.{kept_of, seals_of}

set_is : (files : List (Vec Seal Global)) (n : ℕ) (file : Vec Seal Global) → kept_of (set files n file) ≡ set (kept_of files) n file.items
set_is files n file = map-set (λ (file : Vec Seal Global). file.items) files n file

-- a file's seals, set anew
pub set_same : (files : List (Vec Seal Global)) (n : ℕ) (file : Vec Seal Global) (seals : List Seal) → n < length files → file.items ≡ seals → seals_of (kept_of (set files n file)) n ≡ seals
set_same files n file seals lt is =
    let within : n < length (kept_of files) = rw (length-map files (λ (file : Vec Seal Global). file.items)) lt in
    ap (λ (kept : List (List Seal)). seals_of kept n) (set_is files n file) ∙ get_or-set_same (kept_of files) n file.items [] within ∙ is

-- no other file's seals change
pub set_other : (files : List (Vec Seal Global)) (n : ℕ) (file : Vec Seal Global) (k : ℕ) → ¬ (k ≡ n) → seals_of (kept_of (set files n file)) k ≡ seals_of (kept_of files) k
set_other files n file k other = ap (λ (kept : List (List Seal)). seals_of kept k) (set_is files n file) ∙ get_or-set_other (kept_of files) n k file.items [] other

-- a file's seals, as the code reads them
pub read_is : (files : List (Vec Seal Global)) (n : ℕ) (file : Vec Seal Global) → n < length files → file ≡ get_or files n file → seals_of (kept_of files) n ≡ file.items
read_is [] n file lt is = absurd (omega arith)
read_is (first ∷ files) zero file lt is = ap (λ (f : Vec Seal Global). f.items) (sym is)
read_is (first ∷ files) (suc n) file lt is = read_is files n file (omega arith) is

-- a file with a page has a place
pub place : (files : List (Vec Seal Global)) (n k : ℕ) → k < length (seals_of (kept_of files) n) → n < length files
place [] n k lt = absurd (omega arith)
place (first ∷ files) zero k lt = omega arith
place (first ∷ files) (suc n) k lt = let later = place files n k lt in omega (arith, later)

-- a file without seals at the end
pub pushed_none : (files : List (Vec Seal Global)) (file : Vec Seal Global) (n : ℕ) → file.items ≡ [] → seals_of (kept_of (files ++ file ∷ [])) n ≡ seals_of (kept_of files) n
pushed_none [] file zero none = none
pushed_none [] file (suc n) none = refl
pushed_none (first ∷ files) file zero none = refl
pushed_none (first ∷ files) file (suc n) none = pushed_none files file n none

pub get_is : {X : Type 0} (xs : List X) (k : ℕ) (x : X) → k < length xs → x ≡ get_or xs k x → slice_get xs k ≡ Some x
get_is [] k x lt is = absurd (omega arith)
get_is (y ∷ xs) zero x lt is = ap Some (sym is)
get_is (y ∷ xs) (suc k) x lt is = get_is xs k x (omega arith) is

pub OnErr-any : {A E P : Type 0} (result : Result A E) → P → OnErr result P
OnErr-any (Ok value) p = tt
OnErr-any (Err e) p = p
