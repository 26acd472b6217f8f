-- A file by its number, after a change of the map.
use Rattle.std.proofs.Common.{◌≡◌, ◌≢◌, ℕ, zero, suc, ◌<◌, List, Vec, [], ◌∷◌, ◌++◌, length, get_or, set, Option, Some, None, Result, Ok, Err, OnErr, refl, sym, ap, ◌∙◌, subst, arith}
use Rattle.std.specs.Option.{option_map}
use Rattle.std.specs.declared.alloc.Global.{Global}
use Rattle.std.proofs.lemmas.List.{get_or-set_same, get_or-set_other, set-get_or, map-set}
use Rattle.std.proofs.lemmas.Option.{none-some}
use Rattle.vx_store.specs.Files.{Files, bytes_at, SetsOnly}
use Rattle.vx_store.specs.Store.{HasFile, AppendsAt}
use Rattle.vx_store.specs.Memory.{files_of, with_added}

-- a file that is there has a place in the list
pub place_of : (files : Files) (n : ℕ) (bytes : List ℕ) → bytes_at files n ≡ Some bytes → n < length files
place_of [] n bytes is = absurd (none-some bytes is)
place_of (file ∷ files) zero bytes is = omega arith
place_of (file ∷ files) (suc n) bytes is = let later = place_of files n bytes is in omega (arith, later)

-- setting a place changes that file alone
pub sets_only : (files : Files) (n : ℕ) (file : Option (List ℕ)) → n < length files → SetsOnly files (set files n file) n file
sets_only files n file lt = record {
  file = get_or-set_same files n file None lt;
  others = λ k other. get_or-set_other files n k file None other;
}

-- a file more at the end is found there
pub added_at : (files : Files) (file : Option (List ℕ)) → bytes_at (files ++ file ∷ []) (length files) ≡ file
added_at [] file = refl
added_at (first ∷ files) file = added_at files file

-- and no other changes
pub added_others : (files : Files) (file : Option (List ℕ)) (k : ℕ) → k ≢ length files → bytes_at (files ++ file ∷ []) k ≡ bytes_at files k
added_others [] file zero other = absurd (other refl)
added_others [] file (suc k) other = refl
added_others (first ∷ files) file zero other = refl
added_others (first ∷ files) file (suc k) other = added_others files file k (λ same. other (ap suc same))

pub adds_only : (files : Files) (file : Option (List ℕ)) → SetsOnly files (files ++ file ∷ []) (length files) file
adds_only files file = record { file = added_at files file; others = added_others files file }

-- no file has the next number
pub next_is_free : (files : Files) → bytes_at files (length files) ≡ None
next_is_free [] = refl
next_is_free (file ∷ files) = next_is_free files

-- ---- the list that the store in memory keeps

abbrev file_bytes : Option (Vec ℕ Global) → Option (List ℕ)
file_bytes file = option_map (λ bytes. bytes.items) file

-- a place that was written anew
pub files_of-set : (files : List (Option (Vec ℕ Global))) (n : ℕ) (file : Option (Vec ℕ Global)) → files_of (set files n file) ≡ set (files_of files) n (option_map (λ bytes. bytes.items) file)
files_of-set files n file = map-set file_bytes files n file

-- a file that is there, read at its place
here_is : (files : List (Option (Vec ℕ Global))) (n : ℕ) (was : Option (Vec ℕ Global)) (file : Vec ℕ Global) (bytes : List ℕ) → bytes_at (files_of files) n ≡ Some bytes → was ≡ get_or files n was → was ≡ Some file
    → bytes_at (files_of files) n ≡ Some file.items
here_is [] n was file bytes has here some = absurd (none-some bytes has)
here_is (first ∷ files) zero was file bytes has here some = ap file_bytes (sym here ∙ some)
here_is (first ∷ files) (suc n) was file bytes has here some = here_is files n was file bytes has here some

-- a file that was put back as it was
pub put_back : (files : List (Option (Vec ℕ Global))) (n : ℕ) (was : Option (Vec ℕ Global)) (file new : Vec ℕ Global) → was ≡ get_or files n was → was ≡ Some file → new.items ≡ file.items → files_of (set files n (Some new)) ≡ files_of files
put_back files n was file new here some same =
    files_of-set files n (Some new)
    ∙ ap (λ (bytes : List ℕ). set (files_of files) n (Some bytes)) same
    ∙ sym (files_of-set files n (Some file))
    ∙ ap (λ (f : Option (Vec ℕ Global)). files_of (set files n f)) (sym some ∙ here)
    ∙ ap files_of (set-get_or files n was)

-- a file that got bytes at its end
pub put_longer : (files : List (Option (Vec ℕ Global))) (n : ℕ) (was : Option (Vec ℕ Global)) (file new : Vec ℕ Global) (bytes : List ℕ) → HasFile n (files_of files) → was ≡ get_or files n was → was ≡ Some file
    → new.items ≡ file.items ++ bytes → files_of (set files n (Some new)) ≡ with_added (files_of files) n bytes
put_longer files n was file new bytes has here some longer =
    let read : bytes_at (files_of files) n ≡ Some file.items = here_is files n was file has.bytes has.is here some in
    files_of-set files n (Some new)
    ∙ ap (λ (all : List ℕ). set (files_of files) n (Some all)) longer
    ∙ ap (λ (old : Option (List ℕ)). set (files_of files) n (option_map (λ all. all ++ bytes) old)) (sym read)

pub appended : (files : List (Option (Vec ℕ Global))) (n at : ℕ) (was : Option (Vec ℕ Global)) (file new : Vec ℕ Global) (bytes : List ℕ) → HasFile n (files_of files) → was ≡ get_or files n was → was ≡ Some file
    → at ≡ length file.items → new.items ≡ file.items ++ bytes → AppendsAt n bytes at (files_of files) (files_of (set files n (Some new)))
appended files n at was file new bytes has here some place longer =
    let read : bytes_at (files_of files) n ≡ Some file.items = here_is files n was file has.bytes has.is here some in
    let written : files_of (set files n (Some new)) ≡ set (files_of files) n (Some (file.items ++ bytes)) =
    files_of-set files n (Some new) ∙ ap (λ (all : List ℕ). set (files_of files) n (Some all)) longer in
    let there : n < length (files_of files) = place_of (files_of files) n file.items read in
    record {
      old = file.items;
      was = read;
      place = place;
      sets = subst (λ (after : Files). SetsOnly (files_of files) after n (Some (file.items ++ bytes))) (sym written) (sets_only (files_of files) n (Some (file.items ++ bytes)) there);
    }

pub OnErr-any : {A E P : Type 0} (result : Result A E) → P → OnErr result P
OnErr-any (Ok value) p = tt
OnErr-any (Err e) p = p
