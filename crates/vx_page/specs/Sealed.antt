-- A sealed store, as contracts see it: what it keeps of each page, and which rows stand there.
use Rattle.std.specs.Prelude.{◌≡◌, ℕ, ◌+◌, ◌-◌, ◌^◌, ◌≤◌, min, List, [], ◌∷◌, ◌++◌, length, map, Vec, Option, Some, None, slice_get, slice_index_or, Result, Ok, Err, ⊤}
use Rattle.std.specs.declared.alloc.Global.{Global}
use Rattle.vx_value.specs.Hash.{hash_of}
use Rattle.vx_store.specs.Views.{StoreView}
use Rattle.vx_store.specs.Files.{Files}
use Rattle.vx_store.specs.Store.{Tells, HasBytes}
use Rattle.vx_store.specs.declared.error.StoreError.{StoreError}
use Rattle.vx_page.specs.declared.cell.Slot.{Slot}
use Rattle.vx_page.specs.declared.seals.Seal.{Seal}
use Rattle.vx_page.specs.Page.{Cells, page, IsPageOf}

-- The store inside, how many calls have failed, how many bytes were appended, and the seals of each file's
-- pages, by the file's number and in the order of the pages.
pub record SealedView : Type 0 where
  pub store : StoreView
  pub faults : ℕ
  pub appended : ℕ
  pub kept : List (List Seal)

-- a sealed store as a store: its files are those of the store inside, and its faults its own
abbrev pub as_store : SealedView → StoreView
as_store v = record v.store { faults = v.faults }

-- nothing was called yet
abbrev pub fresh : StoreView → SealedView
fresh store = record { store = store; faults = 0; appended = 0; kept = [] }

-- the seals, as the code keeps them
abbrev pub kept_of : List (Vec Seal Global) → List (List Seal)
kept_of files = map (λ file. file.items) files

-- the seals of a file's pages
abbrev pub seals_of : List (List Seal) → ℕ → List Seal
seals_of kept n = slice_index_or kept n []

-- how many pages a file has
abbrev pub pages_of : List (List Seal) → ℕ → ℕ
pages_of kept n = length (seals_of kept n)

-- length, hash and number of rows are those of these rows' page
pub record Agrees (seal : Seal) (rows : List Cells) : Type 0 where
  pub len : seal.len ≡ length (page rows)
  pub hash : seal.hash ≡ hash_of (page rows)
  pub count : seal.rows ≡ length rows

-- the file's page of this number is that of these rows, of this shape, as far as the store tells its bytes
pub record HasPage (v : SealedView) (n k : ℕ) (shape : List Slot) (rows : List Cells) : Type 0 where
  pub seal : Seal
  pub kept : slice_get (seals_of v.kept n) k ≡ Some seal
  pub of : IsPageOf shape rows (page rows)
  pub agrees : Agrees seal rows
  pub stands : Tells (HasBytes n seal.at seal.len (page rows)) v.store.files

-- the file has that page, and it was appended with this shape
abbrev pub IsPage : SealedView → ℕ → ℕ → List Slot → Type 0
IsPage v n k shape = (rows : List Cells) × HasPage v n k shape rows

-- each page is there as before, but those of files that `But` names
abbrev pub KeepsPages : (ℕ → Type 0) → SealedView → SealedView → Type 0
KeepsPages But before after =
    (n k : ℕ) (shape : List Slot) (rows : List Cells) → ¬ But n → HasPage before n k shape rows → HasPage after n k shape rows

-- each file has the seals that it had, but those that `But` names
abbrev pub KeepsSeals : (ℕ → Type 0) → SealedView → SealedView → Type 0
KeepsSeals But before after = (n : ℕ) → ¬ But n → seals_of after.kept n ≡ seals_of before.kept n

-- the file of this number has one seal more, behind those that it had, and each other what it had
pub record AddsSeal (n : ℕ) (before after : SealedView) : Type 0 where
  pub seal : Seal
  pub file : seals_of after.kept n ≡ seals_of before.kept n ++ seal ∷ []
  pub others : KeepsSeals (λ k. k ≡ n) before after

-- no file that is still to be created has a seal
abbrev pub IsClear : SealedView → Type 0
IsClear v = (n : ℕ) → v.store.created ≤ n → seals_of v.kept n ≡ []

-- an appended page's bytes are counted, up to the last u64
abbrev pub appended_after : {T : Type 0} → ℕ → ℕ → Result T StoreError → ℕ
appended_after appended bytes (Ok done) = min (appended + bytes) (2 ^ 64 - 1)
appended_after appended bytes (Err e) = appended

-- the store doesn't tell its files
abbrev pub IsUntold : Option Files → Type 0
IsUntold None = ⊤
IsUntold (Some files) = ⊥
