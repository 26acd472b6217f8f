-- A row is the list of its values, one for each column.
use Rattle.std.specs.Prelude.{ℕ, List, slice_index_or}
use Rattle.vx_value.specs.declared.value.Value.{Value}
use Rattle.vx_value.specs.declared.value.Value.TheVariants.{Null}

abbrev pub Row : Type 0
Row = List Value

-- the value in a column, and null past the end
abbrev pub value_at : Row → ℕ → Value
value_at row column = slice_index_or row column Null
