-- What each encoding of a vector stands for.
use Rattle.std.specs.Prelude.{◌≡◌, ℕ, List, length, map, get_or, All, None, ⊤}
use Rattle.std.specs.List.{range_with_len}
use Rattle.vx_value.specs.declared.value.Kind.{Kind}
use Rattle.vx_value.specs.declared.value.Value.{Value}
use Rattle.vx_vector.specs.Lane.{Lane, value_of}
use Rattle.vx_vector.specs.Lanes.{kind_of, rows_of, lane_at, lane_or_null}
use Rattle.vx_vector.specs.Index.{IsIn}
use Rattle.vx_vector.specs.Column.{Column, column}
use Rattle.vx_vector.specs.declared.form.Form.{Form}
use Rattle.vx_vector.specs.declared.form.Form.TheVariants.{Flat, Constant, Dictionary}

abbrev pub form_kind : Form → Kind
form_kind (Flat lanes) = kind_of lanes
form_kind (Constant lanes count) = kind_of lanes
form_kind (Dictionary base index) = kind_of base

abbrev pub form_rows : Form → ℕ
form_rows (Flat lanes) = rows_of lanes
form_rows (Constant lanes count) = count
form_rows (Dictionary base index) = length index.items

-- a dictionary's row has what its place has in the base, and is null where it has no place
abbrev pub form_lane : Form → ℕ → Lane
form_lane (Flat lanes) row = lane_at lanes row
form_lane (Constant lanes count) row = lane_at lanes 0
form_lane (Dictionary base index) row = lane_or_null base (get_or index.items row None)

abbrev pub form_value : Form → ℕ → Value
form_value form row = value_of (form_lane form row)

abbrev pub values_of : Form → List Value
values_of form = map (form_value form) (range_with_len 0 (form_rows form))

abbrev pub column_of : Form → Column
column_of form = column (form_kind form) (values_of form)

-- a constant has one row in its buffers, and places lie in the base
abbrev pub IsSound : Form → Type 0
IsSound (Flat lanes) = ⊤
IsSound (Constant lanes count) = rows_of lanes ≡ 1
IsSound (Dictionary base index) = All (IsIn (rows_of base)) index.items
