-- Each literal of an expression is a null, or a value of the kind that stands beside it.
use Rattle.std.specs.Prelude.{Bool, true, Option, Some, None}
use Rattle.std.specs.List.{list_all}
use Rattle.vx_value.specs.declared.value.Kind.{Kind}
use Rattle.vx_value.specs.Value.{kind_of}
use Rattle.vx_expr.specs.Typing.{is_same}
use Rattle.vx_expr.specs.declared.expression.Expr.{Expr, fold-Expr}
use Rattle.vx_expr.specs.declared.expression.Expr.TheOpen.{Expr-F}

abbrev pub is_none_or : Kind → Option Kind → Bool
is_none_or kind None = true
is_none_or kind (Some k) = is_same k kind

abbrev pub literals_step : Expr-F Bool → Bool
literals_step (Expr-F.Column n) = true
literals_step (Expr-F.Literal v k) = is_none_or k (kind_of v)
literals_step (Expr-F.Call g args) = list_all (λ b. b) args

abbrev pub literals_fit : Expr → Bool
literals_fit e = fold-Expr Bool literals_step e
