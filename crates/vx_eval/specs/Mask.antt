-- What an evaluated batch gives: at each selected row its fault, or else its value.
use Rattle.std.specs.Prelude.{◌≡◌, ◌≢◌, ℕ, ◌<◌, List, length, get_or, All, Option, Some, None, Ok}
use Rattle.vx_value.specs.declared.value.Value.{Value}
use Rattle.vx_value.specs.Row.{value_at}
use Rattle.vx_expr.specs.declared.expression.Expr.{Expr}
use Rattle.vx_expr.specs.declared.outcome.Fault.{Fault}
use Rattle.vx_expr.specs.declared.outcome.Got.{Got}
use Rattle.vx_expr.specs.declared.outcome.Got.TheVariants as got
use Rattle.vx_expr.specs.Eval.{eval}
use Rattle.vx_expr.specs.Typing.{type_of}
use Rattle.vx_vector.specs.Column.{Column}
use Rattle.vx_vector.specs.Batch.{row_of, kinds_of}

abbrev pub outcome : Option Fault → Value → Got
outcome None value = got.Value value
outcome (Some fault) value = got.Fault fault

-- The column has a value for each selected row, in their order, and the faults are told by the rows' places
-- in the batch. Rows that were not selected have none.
pub record Evaluates (e : Expr) (columns : List Column) (rows : List ℕ) (column : Column) (faults : List (Option Fault)) : Type 0 where
  pub kind : type_of e (kinds_of columns) ≡ Ok column.kind
  pub count : length column.values ≡ length rows
  pub each : (k : ℕ) → k < length rows → outcome (get_or faults (get_or rows k 0) None) (value_at column.values k) ≡ eval e (row_of columns (get_or rows k 0))
  pub others : (place : ℕ) → All (λ q. q ≢ place) rows → get_or faults place None ≡ None
