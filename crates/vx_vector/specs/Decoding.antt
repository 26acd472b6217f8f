-- What a decoded vector has.
use Rattle.std.specs.Prelude.{◌≡◌, ℕ, List, ◌<◌, length, map, get_or, All, Option, None}
use Rattle.vx_vector.specs.Column.{Column, value_or_null}
use Rattle.vx_vector.specs.Index.{IsIn}
use Rattle.vx_vector.specs.Lane.{value_of}
use Rattle.vx_vector.specs.Lanes.{kind_of, rows_of, lane_or_null}
use Rattle.vx_vector.specs.Form.{form_kind, form_rows, form_value}
use Rattle.vx_vector.specs.declared.lanes.Lanes.{Lanes}
use Rattle.vx_vector.specs.declared.form.Form.{Form}

-- each value is the base's at its place, or null where it has none
pub record Decodes (of base : Column) (index : List (Option ℕ)) : Type 0 where
  pub kind : base.kind ≡ of.kind
  pub values : of.values ≡ map (value_or_null base.values) index
  pub places : All (IsIn (length base.values)) index

-- the same of what stores a vector
pub record DecodesForm (form : Form) (base : Lanes) (index : List (Option ℕ)) : Type 0 where
  pub kind : kind_of base ≡ form_kind form
  pub rows : length index ≡ form_rows form
  pub at : (row : ℕ) → row < form_rows form → value_of (lane_or_null base (get_or index row None)) ≡ form_value form row
  pub places : All (IsIn (rows_of base)) index
