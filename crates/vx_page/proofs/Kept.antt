-- Pages that stand where they stood.
use Rattle.std.proofs.Common.{◌≡◌, ℕ, zero, suc, List, [], ◌∷◌, ◌++◌, length, take, drop, Option, Some, None, slice_get, refl, sym, ap, subst, subst₂, ◌∙◌, arith, inl, inr, take_all, drop_at, length-append, length-drop}
use Rattle.std.proofs.lemmas.Bool.{cases_eq}
use Rattle.std.proofs.lemmas.List.{drop-append-le, take-append-le}
use Rattle.std.proofs.lemmas.Option.{none-some}
use Rattle.vx_value.specs.Hash.{hash_of}
use Rattle.vx_store.specs.Files.{Files, bytes_at}
use Rattle.vx_store.specs.Store.{Told, Tells, HasBytes, AppendsAt, AppendsFront}
use Rattle.vx_page.specs.declared.cell.Slot.{Slot}
use Rattle.vx_page.specs.declared.seals.Seal.{Seal}
use Rattle.vx_page.specs.Page.{Cells, page, IsPageOf}
use Rattle.vx_page.specs.Sealed.{SealedView, seals_of, pages_of, HasPage}

some_is : (x y : List ℕ) → Some x ≡ Some y → x ≡ y
some_is x y e = cc

-- ---- bytes of a file that grows

front_keeps : (m : ℕ) (more : List ℕ) (x y : Files) (n at len : ℕ) (bytes : List ℕ) → AppendsFront m more x y → HasBytes n at len bytes x → HasBytes n at len bytes y
front_keeps m more x y n at len bytes t h =
    elim (cases_eq n m) [
      | inl same ↦
          let old_is : t.old ≡ h.bytes = some_is t.old h.bytes (sym t.was ∙ ap (bytes_at x) (sym same) ∙ h.is) in
          let added = take t.count more in
          let dropped : drop at (h.bytes ++ added) ≡ drop at h.bytes ++ added = drop-append-le at h.bytes added (omega (arith, h.within)) in
          let taken : take len (drop at h.bytes ++ added) ≡ take len (drop at h.bytes) = take-append-le len (drop at h.bytes) added (omega (arith, h.within, length-drop at h.bytes)) in
          record {
            bytes = h.bytes ++ added;
            is = ap (bytes_at y) same ∙ t.sets.file ∙ ap (λ (old : List ℕ). Some (old ++ added)) old_is;
            within = omega (arith, h.within, length-append h.bytes added);
            read_are = h.read_are ∙ sym taken ∙ ap (take len) (sym dropped);
          }
      | inr other ↦ record { bytes = h.bytes; is = t.sets.others n other ∙ h.is; within = h.within; read_are = h.read_are }
    ]

pub told_front : (m : ℕ) (more : List ℕ) (b a : Option Files) → Told (AppendsFront m more) b a → (n at len : ℕ) (bytes : List ℕ) → Tells (HasBytes n at len bytes) b → Tells (HasBytes n at len bytes) a
told_front m more None None t n at len bytes h = tt
told_front m more None (Some y) t n at len bytes h = absurd t
told_front m more (Some x) None t n at len bytes h = absurd t
told_front m more (Some x) (Some y) t n at len bytes h = front_keeps m more x y n at len bytes t h

whole : (m : ℕ) (more : List ℕ) (place : ℕ) (x y : Files) → AppendsAt m more place x y → AppendsFront m more x y
whole m more place x y t =
    let all : take (length more) more ≡ more = take_all (length more) more (omega arith) in
    record {
      old = t.old;
      was = t.was;
      count = length more;
      within = omega arith;
      sets = record { file = t.sets.file ∙ ap (λ (added : List ℕ). Some (t.old ++ added)) (sym all); others = t.sets.others };
    }

pub told_whole : (m : ℕ) (more : List ℕ) (place : ℕ) (b a : Option Files) → Told (AppendsAt m more place) b a → Told (AppendsFront m more) b a
told_whole m more place None None t = tt
told_whole m more place None (Some y) t = absurd t
told_whole m more place (Some x) None t = absurd t
told_whole m more place (Some x) (Some y) t = whole m more place x y t

-- a store that got all of a page got the front of it
pub grown_front : (now before : SealedView) (after : Option Files) (m : ℕ) (more wanted : List ℕ) (place : ℕ) → before ≡ now → more ≡ wanted
    → Told (AppendsAt m more place) before.store.files after → Told (AppendsFront m wanted) now.store.files after
grown_front now before after m more wanted place was is told =
    subst₂ (λ (v : SealedView) (bytes : List ℕ). Told (AppendsFront m bytes) v.store.files after) was is (told_whole m more place before.store.files after told)

-- the bytes that were appended stand at the place that was answered
pub stands_at : (m : ℕ) (more : List ℕ) (place : ℕ) (b a : Option Files) → Told (AppendsAt m more place) b a → Tells (HasBytes m place (length more) more) a
stands_at m more place None None t = tt
stands_at m more place None (Some y) t = absurd t
stands_at m more place (Some x) None t = absurd t
stands_at m more place (Some x) (Some y) t =
    let dropped : drop place (t.old ++ more) ≡ more = drop_at t.old more place (sym t.place) in
    record {
      bytes = t.old ++ more;
      is = t.sets.file;
      within = omega (arith, t.place, length-append t.old more);
      read_are = sym (ap (take (length more)) dropped ∙ take_all (length more) more (omega arith));
    }

-- ---- seals that stay

pub get_front : {X : Type 0} (xs ys : List X) (k : ℕ) (x : X) → slice_get xs k ≡ Some x → slice_get (xs ++ ys) k ≡ Some x
get_front [] ys zero x e = absurd (none-some x e)
get_front [] ys (suc k) x e = absurd (none-some x e)
get_front (y ∷ xs) ys zero x e = e
get_front (y ∷ xs) ys (suc k) x e = get_front xs ys k x e

pub get_last : {X : Type 0} (xs : List X) (x : X) → slice_get (xs ++ x ∷ []) (length xs) ≡ Some x
get_last [] x = refl
get_last (y ∷ xs) x = get_last xs x

-- a page whose seal and bytes stay is there
pub moves : (before after : SealedView) (n k : ℕ) (shape : List Slot) (rows : List Cells) → ((seal : Seal) → slice_get (seals_of before.kept n) k ≡ Some seal → slice_get (seals_of after.kept n) k ≡ Some seal)
    → ((at len : ℕ) (bytes : List ℕ) → Tells (HasBytes n at len bytes) before.store.files → Tells (HasBytes n at len bytes) after.store.files) → HasPage before n k shape rows → HasPage after n k shape rows
moves before after n k shape rows seals bytes h =
    record { seal = h.seal; kept = seals h.seal h.kept; of = h.of; agrees = h.agrees; stands = bytes h.seal.at h.seal.len (page rows) h.stands }

-- the seals of every file but one stay, and that one's grow
pub seals_grow : (before after : List (List Seal)) (m : ℕ) (seal : Seal) → seals_of after m ≡ seals_of before m ++ seal ∷ [] → ((n : ℕ) → ¬ (n ≡ m) → seals_of after n ≡ seals_of before n)
    → (n k : ℕ) (s : Seal) → slice_get (seals_of before n) k ≡ Some s → slice_get (seals_of after n) k ≡ Some s
seals_grow before after m seal grown others n k s e =
    elim (cases_eq n m) [
      | inl same ↦ subst (λ (i : ℕ). slice_get (seals_of after i) k ≡ Some s) (sym same) (rw grown (get_front (seals_of before m) (seal ∷ []) k s (subst (λ (i : ℕ). slice_get (seals_of before i) k ≡ Some s) same e)))
      | inr other ↦ rw (others n other) e
    ]

pub seals_stay : (before after : List (List Seal)) (m : ℕ) → seals_of after m ≡ seals_of before m → ((n : ℕ) → ¬ (n ≡ m) → seals_of after n ≡ seals_of before n)
    → (n k : ℕ) (s : Seal) → slice_get (seals_of before n) k ≡ Some s → slice_get (seals_of after n) k ≡ Some s
seals_stay before after m at_m others n k s e =
    elim (cases_eq n m) [
      | inl same ↦ subst (λ (i : ℕ). slice_get (seals_of after i) k ≡ Some s) (sym same) (rw at_m (subst (λ (i : ℕ). slice_get (seals_of before i) k ≡ Some s) same e))
      | inr other ↦ rw (others n other) e
    ]

-- what stays for one file and for each other stays for all
pub seals_all : (before after : List (List Seal)) (m : ℕ) → seals_of after m ≡ seals_of before m → ((n : ℕ) → ¬ (n ≡ m) → seals_of after n ≡ seals_of before n)
    → (n : ℕ) → ¬ ⊥ → seals_of after n ≡ seals_of before n
seals_all before after m at_m others n any =
    elim (cases_eq n m) [
      | inl same ↦ subst (λ (i : ℕ). seals_of after i ≡ seals_of before i) (sym same) at_m
      | inr other ↦ others n other
    ]

pub keeps_all : (now before after new : SealedView) (m : ℕ) (more : List ℕ) → before ≡ now → new ≡ after → Told (AppendsFront m more) before.store.files after.store.files
    → ((n k : ℕ) (s : Seal) → slice_get (seals_of before.kept n) k ≡ Some s → slice_get (seals_of after.kept n) k ≡ Some s)
    → (n k : ℕ) (shape : List Slot) (rows : List Cells) → ¬ ⊥ → HasPage now n k shape rows → HasPage new n k shape rows
keeps_all now before after new m more was is told seals n k shape rows any h =
    let h1 : HasPage before n k shape rows = subst (λ (v : SealedView). HasPage v n k shape rows) (sym was) h in
    let h2 : HasPage after n k shape rows = moves before after n k shape rows (seals n k) (told_front m more before.store.files after.store.files told n) h1 in
    subst (λ (v : SealedView). HasPage v n k shape rows) (sym is) h2

-- the page that was appended is there
pub new_page : (v : SealedView) (old : List (List Seal)) (b : Option Files) (m number : ℕ) (seal : Seal) (shape : List Slot) (rows : List Cells) (bytes : List ℕ) → number ≡ pages_of old m → seals_of v.kept m ≡ seals_of old m ++ seal ∷ []
    → IsPageOf shape rows bytes → seal.len ≡ length bytes → seal.hash ≡ hash_of bytes → seal.rows ≡ length rows → Told (AppendsAt m bytes seal.at) b v.store.files → HasPage v m number shape rows
new_page v old b m number seal shape rows bytes last grown of len hash count told =
    let same : bytes ≡ page rows = of.is in
    let stands : Tells (HasBytes m seal.at (length bytes) bytes) v.store.files = stands_at m bytes seal.at b v.store.files told in
    record {
      seal = seal;
      kept = rw (grown, last) (get_last (seals_of old m) seal);
      of = subst (IsPageOf shape rows) same of;
      agrees = record { len = len ∙ ap length same; hash = hash ∙ ap hash_of same; count = count };
      stands = subst₂ (λ (n : ℕ) (read : List ℕ). Tells (HasBytes m seal.at n read) v.store.files) (sym len) same stands;
    }
