-- What stands on a page: the number of rows, the length of the body, and the body: the rows' cells one after
-- another. Numbers stand with their highest byte first.
use Rattle.std.specs.Prelude.{◌≡◌, ◌<◌, ◌^◌, ◌+◌, ℕ, if◌then◌else◌, List, [], ◌∷◌, ◌++◌, length, All, IfSome, ⊤, FitsSigned}
use Rattle.std.specs.List.{flat_map}
use Rattle.std.specs.Int.{cast_unsigned, bytes_high_first, w128}
use Rattle.vx_value.specs.declared.value.Kind.{Kind}
use Rattle.vx_value.specs.declared.value.Kind.TheVariants as kind
use Rattle.vx_value.specs.declared.value.Value.{Value}
use Rattle.vx_value.specs.Value.{kind_of, IsLawful}
use Rattle.vx_value.specs.KeyBytes.{value_bytes}
use Rattle.vx_page.specs.declared.cell.Slot.{Slot}
use Rattle.vx_page.specs.declared.cell.Slot.TheVariants as slot
use Rattle.vx_page.specs.declared.cell.Cell.{Cell}
use Rattle.vx_page.specs.declared.cell.Cell.TheVariants as cell

-- a row is the list of its cells
abbrev pub Cells : Type 0
Cells = List Cell

-- a flag is one byte, a value stands as in keys, and a wide int is its tag and 16 bytes of two's complement
abbrev pub cell_bytes : Cell → List ℕ
cell_bytes (cell.Flag b) = (if b then 1 else 0) ∷ []
cell_bytes (cell.Value v) = value_bytes v
cell_bytes (cell.Wide n) = 4 ∷ bytes_high_first 16 (cast_unsigned w128 n)

abbrev pub row_bytes : Cells → List ℕ
row_bytes row = flat_map cell_bytes row

abbrev pub body : List Cells → List ℕ
body rows = flat_map row_bytes rows

-- the one page of these rows
abbrev pub page : List Cells → List ℕ
page rows = bytes_high_first 4 (length rows) ++ bytes_high_first 4 (length (body rows)) ++ body rows

-- ---- shapes

-- a value of this kind, or null
abbrev pub IsOfKind : Kind → Value → Type 0
IsOfKind kind v = IfSome (kind_of v) (λ k. k ≡ kind)

-- the cell can stand in the slot
abbrev pub FitsSlot : Slot → Cell → Type 0
FitsSlot slot.Flag (cell.Flag b) = ⊤
FitsSlot slot.Flag (cell.Value v) = ⊥
FitsSlot slot.Flag (cell.Wide n) = ⊥
FitsSlot (slot.Value kind) (cell.Flag b) = ⊥
FitsSlot (slot.Value kind) (cell.Value v) = IsOfKind kind v
FitsSlot (slot.Value kind) (cell.Wide n) = ⊥
FitsSlot slot.Wide (cell.Flag b) = ⊥
FitsSlot slot.Wide (cell.Value v) = ⊥
FitsSlot slot.Wide (cell.Wide n) = ⊤

-- the most bytes that a value of a kind has: a text has at most 65,535, behind its tag and two of length
abbrev pub most_of_kind : Kind → ℕ
most_of_kind kind.Bool = 2
most_of_kind kind.Int = 9
most_of_kind kind.Text = 65538

-- the most bytes that a cell in the slot has
abbrev pub most_of : Slot → ℕ
most_of slot.Flag = 1
most_of (slot.Value kind) = most_of_kind kind
most_of slot.Wide = 17

-- the most bytes that a row of the shape has
abbrev pub most_of_row : List Slot → ℕ
most_of_row [] = 0
most_of_row (slot ∷ shape) = most_of slot + most_of_row shape

-- the lists are equally long, and what they have at a place is related
abbrev pub Pairs : {A B : Type 0} → (A → B → Type 0) → List A → List B → Type 0
Pairs Relates [] [] = ⊤
Pairs Relates [] (y ∷ ys) = ⊥
Pairs Relates (x ∷ xs) [] = ⊥
Pairs Relates (x ∷ xs) (y ∷ ys) = Relates x y × Pairs Relates xs ys

-- the row has a cell for each slot
abbrev pub HasShape : List Slot → Cells → Type 0
HasShape shape row = Pairs FitsSlot shape row

-- ---- pages

-- a wide int has 128 bits
abbrev pub IsLawfulCell : Cell → Type 0
IsLawfulCell (cell.Flag b) = ⊤
IsLawfulCell (cell.Value v) = IsLawful v
IsLawfulCell (cell.Wide n) = FitsSigned w128 n

-- both numbers of the head fit 32 bits
pub record FitsPage (rows : List Cells) : Type 0 where
  pub count : length rows < 2 ^ 32
  pub length : length (body rows) < 2 ^ 32

-- the bytes are the page of these rows, which have this shape
pub record IsPageOf (shape : List Slot) (rows : List Cells) (bytes : List ℕ) : Type 0 where
  pub shaped : All (HasShape shape) rows
  pub lawful : All (λ row. All IsLawfulCell row) rows
  pub fits : FitsPage rows
  pub is : bytes ≡ page rows
