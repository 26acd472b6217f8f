-- What evaluation over a batch needs of an expression, and what it gives.
use Rattle.std.specs.Prelude.{◌≡◌, ℕ, ◌<◌, Bool, true, false, List, map, get_or, length, Ok, IsOk, IsTrue}
use Rattle.std.specs.List.{list_all}
use Rattle.vx_expr.specs.declared.expression.Expr.{Expr}
use Rattle.vx_expr.specs.declared.expression.Func.{Func}
use Rattle.vx_expr.specs.Typing.{type_of, type_of_call}
use Rattle.vx_expr.specs.Eval.{eval, apply}
use Rattle.vx_vector.specs.Batch.{row_of, kinds_of}
use Rattle.vx_vector.specs.Column.{Column}
use Rattle.vx_vector.specs.Lanes.{kind_of, rows_of}
use Rattle.vx_vector.specs.declared.lanes.Lanes.{Lanes}
use Rattle.vx_eval.specs.Got.{got_at}
use Rattle.vx_eval.specs.Literals.{literals_fit}

-- it types over these columns, and its literals are of their kinds
pub record IsReady (columns : List Column) (e : Expr) : Type 0 where
  pub types : IsOk (type_of e (kinds_of columns))
  pub literals : IsTrue (literals_fit e)

pub record AreReady (columns : List Column) (func : Func) (args : List Expr) : Type 0 where
  pub types : IsOk (type_of_call func (map (λ a. type_of a (kinds_of columns)) args))
  pub literals : IsTrue (list_all literals_fit args)

-- A row for each of these rows of the batch. A wanted one has what the expression gives there; of the others
-- nothing is said.
pub record Evaluated (columns : List Column) (rows : List ℕ) (wanted : List Bool) (e : Expr) (l : Lanes) : Type 0 where
  pub kind : type_of e (kinds_of columns) ≡ Ok (kind_of l)
  pub count : rows_of l ≡ length rows
  pub each : (k : ℕ) → k < length rows → get_or wanted k false ≡ true → got_at l k ≡ eval e (row_of columns (get_or rows k 0))

-- the same of a call
pub record EvaluatedCall (columns : List Column) (rows : List ℕ) (wanted : List Bool) (func : Func) (args : List Expr) (l : Lanes) : Type 0 where
  pub kind : type_of_call func (map (λ a. type_of a (kinds_of columns)) args) ≡ Ok (kind_of l)
  pub count : rows_of l ≡ length rows
  pub each : (k : ℕ) → k < length rows → get_or wanted k false ≡ true → got_at l k ≡ apply func (map (λ a. eval a (row_of columns (get_or rows k 0))) args)
