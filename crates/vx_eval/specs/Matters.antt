-- Which arguments a function looks at, after what its first one gave: the others need not be evaluated.
use Rattle.std.specs.Prelude.{Bool, true, false, not}
use Rattle.vx_value.specs.declared.value.Value.TheVariants.{Null, Bool as Truth}
use Rattle.vx_expr.specs.declared.expression.Func.{Func}
use Rattle.vx_expr.specs.declared.expression.Func.TheVariants.{And, Or, Coalesce}
use Rattle.vx_expr.specs.declared.outcome.Got.{Got}
use Rattle.vx_expr.specs.declared.outcome.Got.TheVariants as got
use Rattle.vx_expr.specs.Eval.{is_truth}

abbrev pub gives_null : Got → Bool
gives_null (got.Value Null) = true
gives_null _ = false

-- neither true nor a fault
abbrev pub is_else : Got → Bool
is_else (got.Fault c) = false
is_else (got.Value (Truth true)) = false
is_else (got.Value _) = true

-- whether the second argument matters
abbrev pub matters : Func → Got → Bool
matters And a = not (is_truth false a)
matters Or a = not (is_truth true a)
matters Coalesce a = gives_null a
matters _ a = true
