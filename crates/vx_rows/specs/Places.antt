-- What the code keeps of fields: each with its place.
use Rattle.std.specs.Prelude.{◌≡◌, ℕ, ◌+◌, ◌<◌, ◌≤◌, List, length, map, take, get_or}
use Rattle.std.specs.List.{sum_by}
use Rattle.vx_rows.specs.declared.fields.Extra.{Extra}
use Rattle.vx_rows.specs.declared.fields.Extra.TheVariants as extra
use Rattle.vx_rows.specs.declared.fields.Field.{Field}
use Rattle.vx_rows.specs.Layout.{field_len}

abbrev pub no_field : Field
no_field = record { extra = extra.Bytes 0; at = 0 }

abbrev pub extras_of : List Field → List Extra
extras_of fields = map (λ (f : Field). f.extra) fields

-- each field's place is where the fields before it end, and all lie in a chunk beside a head
pub record ArePlaced (fields : List Field) (start end : ℕ) : Type 0 where
  pub at : (which : ℕ) → which < length fields → (get_or fields which no_field).at ≡ start + sum_by field_len (take which (extras_of fields))
  pub whole : end ≡ start + sum_by field_len (extras_of fields)
  pub most : end ≤ 4088
