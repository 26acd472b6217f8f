-- Reading bytes as a page, from the front, field by field: the two numbers of the head, and the cells. What
-- can't be read gives the place where that shows: where its field starts, or where the bytes end inside it.
use Rattle.std.specs.Prelude.{◌≡◌, ℕ, ◌+◌, ◌-◌, ◌==◌, ◌&&◌, nat_lt, if◌then◌else◌, ℤ, Bool, true, false, List, [], ◌∷◌, length, take, drop, replicate, Result, Ok, Err, ⊤}
use Rattle.std.specs.Int.{Width, w16, w32, w64, w128, byte_len, from_be_bytes, cast_signed}
use Rattle.std.specs.Str.{is_utf8}
use Rattle.vx_value.specs.declared.value.Kind.{Kind}
use Rattle.vx_value.specs.declared.value.Kind.TheVariants as kind
use Rattle.vx_value.specs.declared.value.Value.{Value}
use Rattle.vx_value.specs.declared.value.Value.TheVariants as value
use Rattle.vx_page.specs.declared.cell.Slot.{Slot}
use Rattle.vx_page.specs.declared.cell.Slot.TheVariants as slot
use Rattle.vx_page.specs.declared.cell.Cell.{Cell}
use Rattle.vx_page.specs.declared.cell.Cell.TheVariants as cell
use Rattle.vx_page.specs.declared.error.PageError.{PageError}
use Rattle.vx_page.specs.declared.error.PageError.TheVariants as errors
use Rattle.vx_page.specs.Page.{Cells}

-- something and the bytes after it, or the place where it can't be read
abbrev pub Read : Type 0 → Type 0
Read A = Result (A × List ℕ) ℕ

infixl 10 ◌>>=◌
abbrev pub ◌>>=◌ : {A B : Type 0} → Result A ℕ → (A → Result B ℕ) → Result B ℕ
(Ok x) >>= f = f x
(Err at) >>= f = Err at

-- what a function returned, seen by view, is what reading gives, unless memory ran out
abbrev pub Fails : {Y : Type 0} → PageError → Result Y ℕ → Type 0
Fails (errors.Bad at) read = read ≡ Err at
Fails errors.NoMemory read = ⊤

abbrev pub Gives : {X Y : Type 0} → (X → Y) → Result X PageError → Result Y ℕ → Type 0
Gives view (Ok x) read = read ≡ Ok (view x)
Gives view (Err e) read = Fails e read

-- ---- fields, of `whole` bytes in all

-- the place where these last bytes start
abbrev pub place : ℕ → List ℕ → ℕ
place whole rest = whole - length rest

-- the first so many bytes
abbrev pub part_at : ℕ → ℕ → List ℕ → Read (List ℕ)
part_at whole count bytes = if nat_lt (length bytes) count then Err whole else Ok (take count bytes, drop count bytes)

-- a number with its highest byte first
abbrev pub number_at : Width → ℕ → List ℕ → Read ℕ
number_at w whole bytes = do
  part ← part_at whole (byte_len w) bytes
  Ok (from_be_bytes w part.0, part.1)

abbrev pub byte_at : ℕ → List ℕ → Read ℕ
byte_at whole [] = Err whole
byte_at whole (b ∷ rest) = Ok (b, rest)

-- 0 or 1, of the field that starts at this place
unfoldable pub bool_at : ℕ → ℕ → List ℕ → Read Bool
bool_at whole at bytes = do
  b ← byte_at whole bytes
  if b.0 == 0 then Ok (false, b.1) else if b.0 == 1 then Ok (true, b.1) else Err at

-- two bytes of length, and so many of UTF-8
unfoldable pub text_at : ℕ → ℕ → List ℕ → Read (List ℕ)
text_at whole at bytes = do
  count ← number_at w16 whole bytes
  text ← part_at whole count.0 count.1
  if is_utf8 text.0 then Ok text else Err at

-- a value of this kind, behind its tag
unfoldable pub content_at : Kind → ℕ → ℕ → List ℕ → Read Value
content_at kind.Bool whole at bytes = do
  b ← bool_at whole at bytes
  Ok (value.Bool b.0, b.1)
content_at kind.Int whole at bytes = do
  n ← number_at w64 whole bytes
  Ok (value.Int (cast_signed w64 n.0), n.1)
content_at kind.Text whole at bytes = do
  text ← text_at whole at bytes
  Ok (value.Text text.0, text.1)

-- the tag of a kind
abbrev pub tag_of : Kind → ℕ
tag_of kind.Bool = 1
tag_of kind.Int = 2
tag_of kind.Text = 3

-- null, or a value of this kind
unfoldable pub value_at : Kind → ℕ → List ℕ → Read Value
value_at kind whole bytes = do
  tag ← byte_at whole bytes
  if tag.0 == 0 then Ok (value.Null, tag.1) else if tag.0 == tag_of kind then content_at kind whole (place whole bytes) tag.1 else Err (place whole bytes)

-- 16 bytes of two's complement, behind their tag
unfoldable pub wide_at : ℕ → List ℕ → Read ℤ
wide_at whole bytes = do
  tag ← byte_at whole bytes
  if tag.0 == 4 then (number_at w128 whole tag.1 >>= λ n. Ok (cast_signed w128 n.0, n.1)) else Err (place whole bytes)

unfoldable pub cell_at : Slot → ℕ → List ℕ → Read Cell
cell_at slot.Flag whole bytes = do
  b ← bool_at whole (place whole bytes) bytes
  Ok (cell.Flag b.0, b.1)
cell_at (slot.Value kind) whole bytes = do
  v ← value_at kind whole bytes
  Ok (cell.Value v.0, v.1)
cell_at slot.Wide whole bytes = do
  n ← wide_at whole bytes
  Ok (cell.Wide n.0, n.1)

-- ---- the page

-- one for each of the list, each from where the one before it ends
unfoldable pub in_turn : {A B : Type 0} → (A → List ℕ → Read B) → List A → List ℕ → Read (List B)
in_turn read [] bytes = Ok ([], bytes)
in_turn read (x ∷ xs) bytes = do
  first ← read x bytes
  others ← in_turn read xs first.1
  Ok (first.0 ∷ others.0, others.1)

-- a cell of a body that ends at this place
unfoldable pub body_cell_at : ℕ → ℕ → Slot → List ℕ → Read Cell
body_cell_at whole end slot bytes = do
  c ← cell_at slot whole bytes
  if nat_lt end (place whole c.1) then Err (place whole bytes) else Ok c

abbrev pub row_at : ℕ → ℕ → List Slot → List ℕ → Read Cells
row_at whole end shape bytes = in_turn (body_cell_at whole end) shape bytes

abbrev pub rows_at : ℕ → ℕ → List Slot → ℕ → List ℕ → Read (List Cells)
rows_at whole end shape count bytes = in_turn {A = ℕ} (λ turn. row_at whole end shape) (replicate count 0) bytes

-- the rows of this shape of which the bytes are the page, or the place where it shows that there are none
unfoldable pub rows_of : List Slot → List ℕ → Result (List Cells) ℕ
rows_of shape bytes = do
  count ← number_at w32 (length bytes) bytes
  size ← number_at w32 (length bytes) count.1
  rows ← rows_at (length bytes) (8 + size.0) shape count.0 size.1
  if length rows.1 == 0 && 8 + size.0 == length bytes then Ok rows.0 else Err (place (length bytes) rows.1)
