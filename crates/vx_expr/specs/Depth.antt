-- Two sizes of an expression that a plan limits.
use Rattle.std.specs.Prelude.{ℕ, ◌+◌, max, List, [], ◌∷◌, length}
use Rattle.vx_value.specs.declared.value.Value.{Value}
use Rattle.vx_value.specs.declared.value.Value.TheVariants.{Text}
use Rattle.vx_expr.specs.declared.expression.Expr.{Expr, fold-Expr}
use Rattle.vx_expr.specs.declared.expression.Expr.TheOpen.{Expr-F}

-- the greatest of some numbers, 0 where there is none
abbrev pub greatest : List ℕ → ℕ
greatest [] = 0
greatest (n ∷ ns) = max n (greatest ns)

abbrev pub depth_step : Expr-F ℕ → ℕ
depth_step (Expr-F.Call g args) = greatest args + 1
depth_step _ = 1

-- how many levels an expression has; a column or a literal has one
abbrev pub depth : Expr → ℕ
depth = fold-Expr ℕ depth_step

-- the bytes of a text, 0 for any other value
abbrev pub text_len : Value → ℕ
text_len (Text bytes) = length bytes
text_len _ = 0

abbrev pub longest_step : Expr-F ℕ → ℕ
longest_step (Expr-F.Column n) = 0
longest_step (Expr-F.Literal v k) = text_len v
longest_step (Expr-F.Call g args) = greatest args

-- the length of the longest text among the literals of an expression
abbrev pub longest_literal : Expr → ℕ
longest_literal = fold-Expr ℕ longest_step
