-- How long what stands on a page is.
use Rattle.std.proofs.Common.{◌≡◌, ℕ, ◌+◌, ◌≤◌, ◌<◌, List, [], ◌∷◌, ◌++◌, length, get_or, take, All, refl, sym, ap, ◌∙◌, arith, length-append}
use Rattle.std.specs.List.{flat_map}
use Rattle.std.proofs.lemmas.List.Elements.{All-head, All-tail}
use Rattle.vx_value.specs.declared.value.Kind.{Kind}
use Rattle.vx_value.specs.declared.value.Kind.TheVariants as kind
use Rattle.vx_value.specs.declared.value.Value.{Value}
use Rattle.vx_value.specs.declared.value.Value.TheVariants as value
use Rattle.vx_value.specs.Value.{IsLawful}
use Rattle.vx_value.specs.KeyBytes.{value_bytes}
use Rattle.vx_page.specs.declared.cell.Slot.{Slot}
use Rattle.vx_page.specs.declared.cell.Slot.TheVariants as slot
use Rattle.vx_page.specs.declared.cell.Cell.{Cell}
use Rattle.vx_page.specs.declared.cell.Cell.TheVariants as cell
use Rattle.vx_page.specs.Page.{Cells, cell_bytes, row_bytes, IsOfKind, FitsSlot, HasShape, IsLawfulCell, most_of_kind, most_of, most_of_row}
use Rattle.vx_page.proofs.Steps.{more}

-- one item more adds its length
pub length_more : {X : Type 0} (f : X → List ℕ) (xs : List X) (i : ℕ) (x : X) → i < length xs → x ≡ get_or xs i x → length (flat_map f (take i xs)) + length (f x) ≡ length (flat_map f (take (i + 1) xs))
length_more f xs i x lt here =
    sym (length-append (flat_map f (take i xs)) (f x)) ∙ ap length (more f [] (flat_map f (take i xs)) (flat_map f (take i xs) ++ f x) xs i x lt here refl refl)

-- a value has at most what its kind may
pub value_within : (k : Kind) (v : Value) → IsLawful v → IsOfKind k v → length (value_bytes v) ≤ most_of_kind k
value_within kind.Bool value.Null lawful is = omega arith
value_within kind.Int value.Null lawful is = omega arith
value_within kind.Text value.Null lawful is = omega arith
value_within kind.Bool (value.Bool b) lawful is = omega arith
value_within kind.Int (value.Bool b) lawful is = absurd cc
value_within kind.Text (value.Bool b) lawful is = absurd cc
value_within kind.Bool (value.Int n) lawful is = absurd cc
value_within kind.Int (value.Int n) lawful is = omega arith
value_within kind.Text (value.Int n) lawful is = absurd cc
value_within kind.Bool (value.Text t) lawful is = absurd cc
value_within kind.Int (value.Text t) lawful is = absurd cc
value_within kind.Text (value.Text t) lawful is = omega (arith, lawful.short)

-- a cell has at most what its slot may
pub cell_within : (s : Slot) (c : Cell) → IsLawfulCell c → FitsSlot s c → length (cell_bytes c) ≤ most_of s
cell_within slot.Flag (cell.Flag b) lawful fits = omega arith
cell_within slot.Flag (cell.Value v) lawful fits = absurd fits
cell_within slot.Flag (cell.Wide n) lawful fits = absurd fits
cell_within (slot.Value k) (cell.Flag b) lawful fits = absurd fits
cell_within (slot.Value k) (cell.Value v) lawful fits = value_within k v lawful fits
cell_within (slot.Value k) (cell.Wide n) lawful fits = absurd fits
cell_within slot.Wide (cell.Flag b) lawful fits = absurd fits
cell_within slot.Wide (cell.Value v) lawful fits = absurd fits
cell_within slot.Wide (cell.Wide n) lawful fits = omega arith

-- a row has at most what its shape may
pub row_within : (shape : List Slot) (row : Cells) → All IsLawfulCell row → HasShape shape row → length (row_bytes row) ≤ most_of_row shape
row_within [] [] lawful shaped = omega arith
row_within [] (c ∷ row) lawful shaped = absurd shaped
row_within (s ∷ shape) [] lawful shaped = absurd shaped
row_within (s ∷ shape) (c ∷ row) lawful shaped =
    let first : length (cell_bytes c) ≤ most_of s = cell_within s c (All-head IsLawfulCell c row lawful) shaped.0 in
    let rest : length (row_bytes row) ≤ most_of_row shape = row_within shape row (All-tail IsLawfulCell c row lawful) shaped.1 in
    omega (arith, first, rest, length-append (cell_bytes c) (row_bytes row))
