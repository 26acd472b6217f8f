-- What a caller of typed buffers gets of a vector.
use Rattle.std.specs.Prelude.{◌≡◌, ℕ, ◌<◌, List, length, get_or}
use Rattle.vx_value.specs.Row.{value_at}
use Rattle.vx_vector.specs.Lane.{value_of, settled_mark}
use Rattle.vx_vector.specs.Lanes.{kind_of, rows_of, lane_at}
use Rattle.vx_vector.specs.Column.{Column}
use Rattle.vx_vector.specs.declared.lanes.Lanes.{Lanes}

-- the rows of a column at these places, each fine or null
pub record HoldsRows (of : Column) (places : List ℕ) (l : Lanes) : Type 0 where
  pub kind : kind_of l ≡ of.kind
  pub rows : rows_of l ≡ length places
  pub at : (k : ℕ) → k < length places → value_of (lane_at l k) ≡ value_at of.values (get_or places k 0)
  pub settled : (row : ℕ) → row < length places → settled_mark (lane_at l row).mark ≡ (lane_at l row).mark
