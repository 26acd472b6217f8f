-- What a filter and a project do to a row.
use Rattle.std.specs.Prelude.{◌≡◌, Bool, true, List, [], ◌∷◌, map, Option, Some, None}
use Rattle.vx_value.specs.declared.value.Value.{Value}
use Rattle.vx_value.specs.declared.value.Value.TheVariants.{Null}
use Rattle.vx_value.specs.Row.{Row}
use Rattle.vx_expr.specs.declared.expression.Expr.{Expr}
use Rattle.vx_expr.specs.declared.outcome.Fault.{Fault}
use Rattle.vx_expr.specs.declared.outcome.Got.{Got}
use Rattle.vx_expr.specs.declared.outcome.Got.TheVariants as got
use Rattle.vx_expr.specs.Eval.{eval, is_truth}

-- whether a predicate is true on a row: null is not true, as in SQL's WHERE
abbrev pub holds : Expr → Row → Bool
holds predicate row = is_truth true (eval predicate row)

-- a value as it stands; a fault is met elsewhere
abbrev pub value_of : Got → Value
value_of (got.Value v) = v
value_of (got.Fault code) = Null

-- the row of what the expressions give
abbrev pub image : List Expr → Row → Row
image exprs row = map (λ e. value_of (eval e row)) exprs

abbrev pub fault_or : Got → Option Fault → Option Fault
fault_or (got.Value v) later = later
fault_or (got.Fault code) later = Some code

-- the fault of the leftmost expression that faults on a row
abbrev pub first_fault : List Expr → Row → Option Fault
first_fault [] row = None
first_fault (e ∷ exprs) row = fault_or (eval e row) (first_fault exprs row)

-- none of them faults on it
abbrev pub IsSound : List Expr → Row → Type 0
IsSound exprs row = first_fault exprs row ≡ None
