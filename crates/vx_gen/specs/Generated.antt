-- The generated plan: drawn rows, those without an amount left out, joined with their groups' names; for each name
-- the number of rows and the sum of their amounts, by name.
use Rattle.std.specs.Prelude.{ℕ, pos, false, List, [], ◌∷◌, Some, None}
use Rattle.vx_value.specs.declared.value.Kind.{Kind}
use Rattle.vx_value.specs.declared.value.Kind.TheVariants as kind
use Rattle.vx_value.specs.declared.value.Value.{Value}
use Rattle.vx_value.specs.declared.value.Value.TheVariants as value
use Rattle.vx_value.specs.declared.sorting.SortKey.{SortKey}
use Rattle.vx_expr.specs.declared.expression.Expr.{Expr}
use Rattle.vx_expr.specs.declared.expression.Expr.TheVariants.{Column, Literal, Call}
use Rattle.vx_expr.specs.declared.expression.Func.TheVariants.{Neq}
use Rattle.vx_plan.specs.declared.aggregate.Aggregate.{Aggregate}
use Rattle.vx_plan.specs.declared.aggregate.AggregateName.TheVariants.{Count, Sum}
use Rattle.vx_plan.specs.declared.aggregate.Step.TheVariants.{Single}
use Rattle.vx_plan.specs.declared.node.JoinKind.TheVariants.{Inner}
use Rattle.vx_plan.specs.declared.node.Node.{Node}
use Rattle.vx_plan.specs.declared.node.Body.TheVariants as body
use Rattle.vx_plan.specs.declared.node.Plan.{Plan}
use Rattle.vx_gen.specs.Rows.{drawn_rows, group_rows}

-- rows that the plan itself holds, for one driver
abbrev pub given : ℕ → List Kind → List (List Value) → Node
given id kinds rows = record { id = id; body = body.Values kinds rows false }

-- place, group, amount
abbrev pub drawn_kinds : List Kind
drawn_kinds = kind.Int ∷ kind.Int ∷ kind.Int ∷ []

-- group, name
abbrev pub group_kinds : List Kind
group_kinds = kind.Int ∷ kind.Text ∷ []

-- `neq(amount, 0)`
abbrev pub has_amount : Expr
has_amount = Call Neq (Column 2 ∷ Literal (value.Int (pos 0)) kind.Int ∷ [])

abbrev pub filtered : Node → Node
filtered source = record { id = 1; body = body.Filter has_amount source }

-- place, group, amount, group, name
abbrev pub joined : Node → Node → Node
joined left right = record { id = 3; body = body.Join Inner (1 ∷ []) (0 ∷ []) left right }

abbrev pub rows_counted : Aggregate
rows_counted = record { name = Count; column = None }

abbrev pub amounts_summed : Aggregate
amounts_summed = record { name = Sum; column = Some 2 }

-- name, number of rows, sum of amounts
abbrev pub grouped : Node → Node
grouped source = record { id = 4; body = body.Aggregation Single (4 ∷ []) (rows_counted ∷ amounts_summed ∷ []) source }

-- ascending, a null last
abbrev pub by_name : SortKey
by_name = record { column = 0; descending = false; nulls_first = false }

abbrev pub sorted : Node → Node
sorted source = record { id = 5; body = body.Order (by_name ∷ []) source }

-- the plan over these rows
abbrev pub plan_over : List (List Value) → List (List Value) → Plan
plan_over rows groups = record { root = sorted (grouped (joined (filtered (given 0 drawn_kinds rows)) (given 2 group_kinds groups))) }

-- the plan of a number, over so many rows and 500 groups
abbrev pub generated_plan : ℕ → ℕ → Plan
generated_plan number count = plan_over (drawn_rows number count) (group_rows 500)
