-- What an arena holds while texts come and go.
use Rattle.std.proofs.Common.{◌≡◌, ◌≢◌, ℕ, eqb, true, false, List, [], ◌∷◌, ◌++◌, get_or, All, refl, sym, ap, ◌∙◌, ◌⊎◌, inl, inr}
use Rattle.std.specs.List.{IsDistinct}
use Rattle.std.specs.List.Sorted.{IsPermutation}
use Rattle.std.proofs.lemmas.List.Elements.{All-from_recursion, recursion_from_All, All-nil, All-cons, All-head, All-tail}
use Rattle.std.proofs.lemmas.List.Sorted.{All-permutation}
use Rattle.std.proofs.lemmas.Map.Keys.{IsDistinct-IsPermutation, IsDistinct-cons, IsDistinct-head, IsDistinct-tail}
use Rattle.std.proofs.lemmas.Bool.{eqb-false, ne_eqb}
use Rattle.std.proofs.lemmas.Bool.Decides.{eqb_tells}
use Rattle.vx_raw.specs.declared.place.Place.{Place}
use Rattle.vx_arena.specs.Names.{name_of}
use Rattle.vx_arena.specs.Text.{ArenaModel, StaysText, KeepsTexts, KeepsOthers, IsNew}
use Rattle.vx_rows.specs.Body.{Stored, null, bool, int, short, long, raw}
use Rattle.vx_rows.specs.Texts.{IsKept, same_place, Holds, SameValue}

-- ---- lists of what is stored

eqb_flips : (m n : ℕ) → eqb m n ≡ eqb n m
eqb_flips m n = both (eqb_tells m n)
  where
    both : ((eqb m n ≡ true) × (m ≡ n)) ⊎ ((eqb m n ≡ false) × (m ≢ n)) → eqb m n ≡ eqb n m
    both (inl (yes_so, same)) = ap (λ (k : ℕ). eqb k n) same ∙ ap (λ (k : ℕ). eqb n k) (sym same)
    both (inr (no_so, apart)) = no_so ∙ sym (ne_eqb n m (λ (same : n ≡ m). apart (sym same)))

same_place_flips : (x y : Stored) → same_place x y ≡ same_place y x
same_place_flips (long len front place) (long len2 front2 place2) = eqb_flips (name_of place) (name_of place2)
same_place_flips null null = refl
same_place_flips null (bool b) = refl
same_place_flips null (int n) = refl
same_place_flips null (short t) = refl
same_place_flips null (long len front place) = refl
same_place_flips null (raw b) = refl
same_place_flips (bool a) null = refl
same_place_flips (bool a) (bool b) = refl
same_place_flips (bool a) (int n) = refl
same_place_flips (bool a) (short t) = refl
same_place_flips (bool a) (long len front place) = refl
same_place_flips (bool a) (raw b) = refl
same_place_flips (int a) null = refl
same_place_flips (int a) (bool b) = refl
same_place_flips (int a) (int n) = refl
same_place_flips (int a) (short t) = refl
same_place_flips (int a) (long len front place) = refl
same_place_flips (int a) (raw b) = refl
same_place_flips (short a) null = refl
same_place_flips (short a) (bool b) = refl
same_place_flips (short a) (int n) = refl
same_place_flips (short a) (short t) = refl
same_place_flips (short a) (long len front place) = refl
same_place_flips (short a) (raw b) = refl
same_place_flips (long len front place) null = refl
same_place_flips (long len front place) (bool b) = refl
same_place_flips (long len front place) (int n) = refl
same_place_flips (long len front place) (short t) = refl
same_place_flips (long len front place) (raw b) = refl
same_place_flips (raw a) null = refl
same_place_flips (raw a) (bool b) = refl
same_place_flips (raw a) (int n) = refl
same_place_flips (raw a) (short t) = refl
same_place_flips (raw a) (long len front place) = refl
same_place_flips (raw a) (raw b) = refl

pub holds_permuted : (a : ArenaModel) (xs ys : List Stored) → IsPermutation xs ys → Holds a xs → Holds a ys
holds_permuted a xs ys moved h = record {
  each = All-permutation (IsKept a) xs ys moved h.each;
  apart = IsDistinct-IsPermutation same_place same_place_flips xs ys moved h.apart;
}

pub holds_none : (a : ArenaModel) → Holds a []
unfolding IsDistinct
holds_none a = record { each = All-nil (IsKept a); apart = tt }

pub holds_cons : (a : ArenaModel) (s : Stored) (xs : List Stored) → IsKept a s → All (λ y. same_place s y ≡ false) xs → Holds a xs → Holds a (s ∷ xs)
holds_cons a s xs kept apart h = record {
  each = All-cons (IsKept a) s xs kept h.each;
  apart = IsDistinct-cons same_place s xs (recursion_from_All (λ y. same_place s y ≡ false) xs apart) h.apart;
}

pub holds_head : (a : ArenaModel) (s : Stored) (xs : List Stored) → Holds a (s ∷ xs) → IsKept a s
holds_head a s xs h = All-head (IsKept a) s xs h.each

pub holds_tail : (a : ArenaModel) (s : Stored) (xs : List Stored) → Holds a (s ∷ xs) → Holds a xs
holds_tail a s xs h = record { each = All-tail (IsKept a) s xs h.each; apart = IsDistinct-tail same_place s xs h.apart }

pub apart_head : (a : ArenaModel) (s : Stored) (xs : List Stored) → Holds a (s ∷ xs) → All (λ y. same_place s y ≡ false) xs
apart_head a s xs h = All-from_recursion (λ y. same_place s y ≡ false) xs (IsDistinct-head same_place s xs h.apart)

-- what stands behind others
pub holds_behind : (a : ArenaModel) (xs ys : List Stored) → Holds a (xs ++ ys) → Holds a ys
holds_behind a [] ys h = h
holds_behind a (x ∷ xs) ys h = holds_behind a xs ys (holds_tail a x (xs ++ ys) h)

pub all_behind : (P : Stored → Type 0) (xs ys : List Stored) → All P (xs ++ ys) → All P ys
all_behind P [] ys all = all
all_behind P (x ∷ xs) ys all = all_behind P xs ys (All-tail P x (xs ++ ys) all)

-- ---- texts that stay

-- its text stays
abbrev pub Stays : ArenaModel → ArenaModel → Stored → Type 0
Stays a d (long len front place) = StaysText a d place
Stays a d _ = Unit {0}

pub kept_stays : (a d : ArenaModel) (s : Stored) → IsKept a s → Stays a d s → IsKept d s
kept_stays a d null kept stays = kept
kept_stays a d (bool b) kept stays = kept
kept_stays a d (int n) kept stays = kept
kept_stays a d (short t) kept stays = kept
kept_stays a d (long len front place) kept stays = record {
  is_text = stays.there;
  lawful = rw stays.bytes kept.lawful;
  whole = rw stays.bytes kept.whole;
  front_is = rw stays.bytes kept.front_is;
  blocks = stays.count ∙ kept.blocks;
  least = kept.least;
}
kept_stays a d (raw b) kept stays = kept

pub value_stays : (a d : ArenaModel) (s : Stored) → Stays a d s → SameValue a d s
value_stays a d null stays = refl
value_stays a d (bool b) stays = refl
value_stays a d (int n) stays = refl
value_stays a d (short t) stays = refl
value_stays a d (long len front place) stays = rw stays.bytes refl
value_stays a d (raw b) stays = refl

pub all_stay : (a d : ArenaModel) (xs : List Stored) → Holds a xs → All (Stays a d) xs → Holds d xs
all_stay a d xs h stays = record { each = λ k s less. kept_stays a d (get_or xs k s) (h.each k s less) (stays k s less); apart = h.apart }

pub values_stay : (a d : ArenaModel) (xs : List Stored) → All (Stays a d) xs → All (SameValue a d) xs
values_stay a d xs stays = λ k s less. value_stays a d (get_or xs k s) (stays k s less)

-- where each text stays
pub stays_kept : (a d : ArenaModel) (s : Stored) → KeepsTexts a d → IsKept a s → Stays a d s
stays_kept a d null keeps kept = tt
stays_kept a d (bool b) keeps kept = tt
stays_kept a d (int n) keeps kept = tt
stays_kept a d (short t) keeps kept = tt
stays_kept a d (long len front place) keeps kept = keeps place kept.is_text
stays_kept a d (raw b) keeps kept = tt

pub all_stay_kept : (a d : ArenaModel) (xs : List Stored) → KeepsTexts a d → Holds a xs → All (Stays a d) xs
all_stay_kept a d xs keeps h = λ k s less. stays_kept a d (get_or xs k s) keeps (h.each k s less)

-- where each but one stays
stays_other : (a d : ArenaModel) (len : ℕ) (front : List ℕ) (gone : Place) (s : Stored) → KeepsOthers a d gone → same_place (long len front gone) s ≡ false → IsKept a s → Stays a d s
stays_other a d len front gone null keeps apart kept = tt
stays_other a d len front gone (bool b) keeps apart kept = tt
stays_other a d len front gone (int n) keeps apart kept = tt
stays_other a d len front gone (short t) keeps apart kept = tt
stays_other a d len front gone (long len2 front2 place) keeps apart kept = keeps place kept.is_text (λ (same : name_of place ≡ name_of gone). eqb-false (name_of gone) (name_of place) apart (sym same))
stays_other a d len front gone (raw b) keeps apart kept = tt

pub all_stay_others : (a d : ArenaModel) (len : ℕ) (front : List ℕ) (gone : Place) (xs : List Stored) → KeepsOthers a d gone → Holds a (long len front gone ∷ xs) → All (Stays a d) xs
all_stay_others a d len front gone xs keeps h =
    let apart = apart_head a (long len front gone) xs h in
    let rest = holds_tail a (long len front gone) xs h in
    λ k s less. stays_other a d len front gone (get_or xs k s) keeps (apart k s less) (rest.each k s less)

-- a new place is apart from all
new_apart : (a : ArenaModel) (len : ℕ) (front : List ℕ) (new : Place) (s : Stored) → IsNew a new → IsKept a s → same_place (long len front new) s ≡ false
new_apart a len front new null fresh kept = refl
new_apart a len front new (bool b) fresh kept = refl
new_apart a len front new (int n) fresh kept = refl
new_apart a len front new (short t) fresh kept = refl
new_apart a len front new (long len2 front2 place) fresh kept = ne_eqb (name_of new) (name_of place) (λ (same : name_of new ≡ name_of place). fresh place kept.is_text (sym same))
new_apart a len front new (raw b) fresh kept = refl

pub all_new_apart : (a : ArenaModel) (len : ℕ) (front : List ℕ) (new : Place) (xs : List Stored) → IsNew a new → Holds a xs → All (λ y. same_place (long len front new) y ≡ false) xs
all_new_apart a len front new xs fresh h = λ k s less. new_apart a len front new (get_or xs k s) fresh (h.each k s less)
