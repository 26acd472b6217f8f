-- What a plan may have at most, and the order in which that is asked.
use Rattle.std.specs.Prelude.{ℕ, ◌+◌, ◌-◌, ◌*◌, ◌^◌, Bool, true, ◌&&◌, if◌then◌else◌, nat_le, List, [], ◌∷◌, length, map, sum_by, Option, Some, None, Result, Ok, Err}
use Rattle.std.specs.List.{list_all}
use Rattle.vx_value.specs.declared.value.Value.{Value}
use Rattle.vx_expr.specs.declared.expression.Expr.{Expr}
use Rattle.vx_expr.specs.Depth.{greatest, depth, text_len, longest_literal}
use Rattle.vx_plan.specs.declared.aggregate.Step.{Step}
use Rattle.vx_plan.specs.declared.aggregate.Step.TheVariants.{Partial}
use Rattle.vx_plan.specs.declared.aggregate.AggregateName.{AggregateName}
use Rattle.vx_plan.specs.declared.aggregate.AggregateName.TheVariants.{Sum}
use Rattle.vx_plan.specs.declared.aggregate.Aggregate.{Aggregate}
use Rattle.vx_plan.specs.declared.node.JoinKind.{JoinKind}
use Rattle.vx_plan.specs.declared.node.JoinKind.TheVariants.{Semi, Anti}
use Rattle.vx_plan.specs.declared.refusal.LimitName.{LimitName}
use Rattle.vx_plan.specs.declared.refusal.LimitName.TheVariants.{Nodes, Columns, Rows, Cells, Depth, Text, Growth}
use Rattle.vx_plan.specs.declared.refusal.Refusal.{Refusal}
use Rattle.vx_plan.specs.declared.refusal.Refusal.TheVariants.{P6}
use Rattle.vx_plan.specs.Outcome.{on_some}
use Rattle.vx_plan.specs.Tree.{Tree, values, over, join, Own, filter, project, aggregation, pre_order}

-- ---- columns

-- a partial sum is two columns, every other result is one
abbrev pub result_columns : Step → AggregateName → ℕ
result_columns Partial Sum = 2
result_columns _ _ = 1

-- the keys, then the results
abbrev pub columns_grouped : Step → ℕ → List Aggregate → ℕ
columns_grouped step keys aggregates = keys + sum_by (λ a. result_columns step a.name) aggregates

abbrev pub columns_over : Own → ℕ → ℕ
columns_over (project es) below = length es
columns_over (aggregation step keys aggregates) below = columns_grouped step (length keys) aggregates
columns_over _ below = below

-- a semi or an anti join gives left columns alone
abbrev pub columns_joined : JoinKind → ℕ → ℕ → ℕ
columns_joined Semi left right = left
columns_joined Anti left right = left
columns_joined _ left right = left + right

-- how many columns a node gives, by its form alone
abbrev pub columns : Tree → ℕ
columns (values id kinds rows parallel) = length kinds
columns (over id own source) = columns_over own (columns source)
columns (join id kind on_left on_right left right) = columns_joined kind (columns left) (columns right)

-- ---- expressions and texts that a node has itself

abbrev pub exprs_of : Own → List Expr
exprs_of (filter predicate) = predicate ∷ []
exprs_of (project es) = es
exprs_of _ = []

-- the levels of the deepest expression
abbrev pub depth_at : Tree → ℕ
depth_at (over id own source) = greatest (map depth (exprs_of own))
depth_at _ = 0

-- the bytes of the longest text, among cells or literals
abbrev pub longest_at : Tree → ℕ
longest_at (values id kinds rows parallel) = greatest (map (λ row. greatest (map text_len row)) rows)
longest_at (over id own source) = greatest (map longest_literal (exprs_of own))
longest_at _ = 0

-- ---- growth: a bound on the rows that a node gives, however they are dealt out

-- up to 8 drivers may each give a row for no rows
abbrev pub growth_over : Own → ℕ → ℕ
growth_over (aggregation step keys aggregates) below = below + 8
growth_over _ below = below

abbrev pub growth_joined : JoinKind → ℕ → ℕ → ℕ
growth_joined Semi left right = left
growth_joined Anti left right = left
growth_joined _ left right = left * right + left + right

abbrev pub growth : Tree → ℕ
growth (values id kinds rows parallel) = length rows
growth (over id own source) = growth_over own (growth source)
growth (join id kind on_left on_right left right) = growth_joined kind (growth left) (growth right)

-- ---- the limits

abbrev pub counted_values : LimitName → List (List Value) → ℕ
counted_values Nodes rows = 1
counted_values Rows rows = length rows
counted_values Cells rows = sum_by length rows
counted_values _ rows = 0

abbrev pub counted_over : LimitName → ℕ
counted_over Nodes = 1
counted_over _ = 0

-- how much of something a node has itself, where the sum over all nodes has a limit
abbrev pub counted : LimitName → Tree → ℕ
counted name (values id kinds rows parallel) = counted_values name rows
counted name _ = counted_over name

abbrev pub total : LimitName → Tree → ℕ
total name t = sum_by (counted name) (pre_order t)

-- whether a number of columns is lawful
abbrev pub is_width : ℕ → Bool
is_width n = nat_le 1 n && nat_le n 64

-- whether a node keeps within a limit that holds at each node
abbrev pub keeps_at : LimitName → Tree → Bool
keeps_at Columns t = is_width (columns t)
keeps_at Depth t = nat_le (depth_at t) 64
keeps_at Text t = nat_le (longest_at t) 65535
keeps_at Growth t = nat_le (growth t) (2 ^ 62)
keeps_at _ t = true

abbrev pub keeps_everywhere : LimitName → Tree → Bool
keeps_everywhere name t = list_all (keeps_at name) (pre_order t)

-- whether a plan keeps within a limit
abbrev pub keeps : LimitName → Tree → Bool
keeps Nodes t = nat_le (total Nodes t) 64
keeps Rows t = nat_le (total Rows t) 100000
keeps Cells t = nat_le (total Cells t) 1000000
keeps name t = keeps_everywhere name t

-- the first of these limits that is passed refuses
abbrev pub check_limits : List LimitName → Tree → Result Unit Refusal
check_limits [] t = Ok tt
check_limits (name ∷ names) t = if keeps name t then check_limits names t else Err (P6 name)

-- ---- the same, found on the way up

-- what is left of an allowance
abbrev pub left_after : ℕ → ℕ → Option ℕ
left_after left n = if nat_le n left then Some (left - n) else None

-- a number, where a test allows it
abbrev pub where_kept : Bool → ℕ → Option ℕ
where_kept kept n = if kept then Some n else None

abbrev pub kept_width : ℕ → Option ℕ
kept_width n = where_kept (is_width n) n

-- a node's columns, where they are lawful at it and at all below it
abbrev pub kept_columns : Tree → Option ℕ
kept_columns (values id kinds rows parallel) = kept_width (length kinds)
kept_columns (over id (project es) source) = on_some (kept_columns source) (λ _. kept_width (length es))
kept_columns (over id (aggregation step keys aggregates) source) =
    on_some (kept_columns source) (λ _. kept_width (columns_grouped step (length keys) aggregates))
kept_columns (over id own source) = kept_columns source
kept_columns (join id kind on_left on_right left right) =
    on_some (kept_columns left) (λ a. on_some (kept_columns right) (λ b. kept_width (columns_joined kind a b)))

abbrev pub kept_size : ℕ → Option ℕ
kept_size n = where_kept (nat_le n (2 ^ 62)) n

-- a node's growth, where it keeps within its limit at it and at all below it
abbrev pub kept_growth : Tree → Option ℕ
kept_growth (values id kinds rows parallel) = kept_size (length rows)
kept_growth (over id (aggregation step keys aggregates) source) = on_some (kept_growth source) (λ n. kept_size (n + 8))
kept_growth (over id own source) = kept_growth source
kept_growth (join id kind on_left on_right left right) =
    on_some (kept_growth left) (λ a. on_some (kept_growth right) (λ b. kept_size (growth_joined kind a b)))
