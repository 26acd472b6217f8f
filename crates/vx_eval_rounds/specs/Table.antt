-- The table that is measured, and the expressions over it.
use Rattle.std.specs.Prelude.{◌≡◌, ℕ, List, [], ◌∷◌, length, IsOk, IsTrue}
use Rattle.vx_value.specs.declared.value.Kind.{Kind}
use Rattle.vx_value.specs.declared.value.Kind.TheVariants.{Int, Text}
use Rattle.vx_expr.specs.declared.expression.Expr.{Expr}
use Rattle.vx_expr.specs.Typing.{type_of}
use Rattle.vx_eval.specs.Literals.{literals_fit}
use Rattle.vx_vector.specs.Column.{Column}

-- three ints and two texts a row
abbrev pub kinds : List Kind
kinds = Int ∷ Int ∷ Int ∷ Text ∷ Text ∷ []

pub record IsColumn (of : Kind) (rows : ℕ) (c : Column) : Type 0 where
  pub kind : c.kind ≡ of
  pub count : length c.values ≡ rows

-- it types over the table, and its literals are of their kinds
pub record Fits (e : Expr) : Type 0 where
  pub types : IsOk (type_of e kinds)
  pub literals : IsTrue (literals_fit e)
