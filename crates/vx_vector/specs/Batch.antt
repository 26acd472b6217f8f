-- A batch: its columns, and its rows of one value a column.
use Rattle.std.specs.Prelude.{◌≡◌, ℕ, List, length, map, All}
use Rattle.vx_value.specs.declared.value.Kind.{Kind}
use Rattle.vx_value.specs.declared.value.Value.{Value}
use Rattle.vx_value.specs.Row.{value_at}
use Rattle.vx_vector.specs.Column.{Column}

pub record BatchModel : Type 0 where
  pub columns : List Column
  pub rows : ℕ

abbrev pub batch_of : List Column → ℕ → BatchModel
batch_of columns rows = record { columns = columns; rows = rows }

-- each column has a value for each row
abbrev pub IsEven : BatchModel → Type 0
IsEven batch = All (λ (c : Column). length c.values ≡ batch.rows) batch.columns

-- the values of a row
abbrev pub row_of : List Column → ℕ → List Value
row_of columns row = map (λ (c : Column). value_at c.values row) columns

-- the kinds of its columns
abbrev pub kinds_of : List Column → List Kind
kinds_of columns = map (λ (c : Column). c.kind) columns
