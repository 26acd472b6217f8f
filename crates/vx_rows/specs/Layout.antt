-- Where things stand in a row: a head of 8 bytes and a body. A body has a null bit for each column and each
-- accumulator in whole words, a slot for each column, and the accumulators.
use Rattle.std.specs.Prelude.{ℕ, ◌+◌, ◌*◌, ◌/◌, List, ◌++◌, length, map, take, get_or}
use Rattle.std.specs.List.{sum_by}
use Rattle.vx_value.specs.declared.value.Kind.{Kind}
use Rattle.vx_value.specs.declared.value.Kind.TheVariants as kind
use Rattle.vx_rows.specs.declared.fields.Extra.{Extra}
use Rattle.vx_rows.specs.declared.fields.Extra.TheVariants as extra

-- how many bytes the slot of a kind has
abbrev pub cell_len : Kind → ℕ
cell_len kind.Bool = 8
cell_len kind.Int = 8
cell_len kind.Text = 16

abbrev pub field_len : Extra → ℕ
field_len (extra.Bytes count) = count
field_len (extra.Slot k) = cell_len k

-- a row's fields: a slot for each column, then the accumulators
abbrev pub fields_of : List Kind → List Extra → List Extra
fields_of kinds extras = map (λ k. extra.Slot k) kinds ++ extras

-- the field of a number
abbrev pub field_at : List Extra → ℕ → Extra
field_at fields which = get_or fields which (extra.Bytes 0)

-- how many bytes the null bits of so many fields take: whole words of 8 bytes
abbrev pub null_len : ℕ → ℕ
null_len count = 8 * ((count + 63) / 64)

-- fields one after another, from a byte of the body on
pub record Shape : Type 0 where
  pub start : ℕ
  pub fields : List Extra

-- how many bytes of the body stand before a field
abbrev pub place_in : Shape → ℕ → ℕ
place_in shape which = shape.start + sum_by field_len (take which shape.fields)

abbrev pub end_of : Shape → ℕ
end_of shape = shape.start + sum_by field_len shape.fields

-- the fields of a body stand behind its null bits
abbrev pub shape_of : List Extra → Shape
shape_of fields = record { start = null_len (length fields); fields = fields }

abbrev pub place_of : List Extra → ℕ → ℕ
place_of fields which = place_in (shape_of fields) which

abbrev pub body_len : List Extra → ℕ
body_len fields = end_of (shape_of fields)

abbrev pub row_len : List Extra → ℕ
row_len fields = 8 + body_len fields

abbrev pub rows_a_chunk : List Extra → ℕ
rows_a_chunk fields = 4096 / row_len fields
