-- The faults that a plan can meet, each with the number of its node and a row.
use Rattle.std.specs.Prelude.{◌≡◌, ◌⊎◌, ℕ, List, [], ◌∷◌, take, slice_get, All, Contains, Some, Err}
use Rattle.vx_value.specs.Row.{Row}
use Rattle.vx_expr.specs.declared.expression.Expr.{Expr}
use Rattle.vx_expr.specs.declared.outcome.Fault.{Fault}
use Rattle.vx_expr.specs.declared.outcome.Fault.TheVariants.{Overflow}
use Rattle.vx_plan.specs.declared.aggregate.Aggregate.{Aggregate}
use Rattle.vx_plan.specs.declared.aggregate.Step.{Step}
use Rattle.vx_plan.specs.Tree.{Tree, values, over, join, Own, filter, project, aggregation, order, topn, limit, exchange}
use Rattle.vx_meaning.specs.Rows.{first_fault, IsSound}
use Rattle.vx_meaning.specs.Groups.{groups}
use Rattle.vx_meaning.specs.Answer.{Answers}
use Rattle.vx_meaning.specs.Begun.{Begun}

-- on a row of the source the leftmost expression that faults has this fault
pub record RowFaults (exprs : List Expr) (From : List Row → Type 0) (row : Row) (code : Fault) : Type 0 where
  pub input : List Row
  pub from : From input
  pub there : Contains input row
  pub fault : first_fault exprs row ≡ Some code

-- a sum or count of the group with this key overflows, which in a partial result none does
pub record GroupFaults (step : Step) (keys : List ℕ) (aggregates : List Aggregate) (From : List Row → Type 0) (key : Row) (code : Fault) : Type 0 where
  pub input : List Row
  pub from : From input
  pub there : Contains (groups step keys aggregates input) (Err key)
  pub fault : code ≡ Overflow

-- A fault of the node itself. A fault below may be met later than one above, so a filter and a project meet theirs on
-- what their source has only begun to give.
abbrev pub LineFaults : Own → (List Row → Type 0) → (List Row → Type 0) → Row → Fault → Type 0
LineFaults (filter predicate) whole begun row code = RowFaults (predicate ∷ []) begun row code
LineFaults (project exprs) whole begun row code = RowFaults exprs begun row code
LineFaults (aggregation step keys aggregates) whole begun row code = GroupFaults step keys aggregates whole row code
LineFaults (order keys) whole begun row code = ⊥
LineFaults (topn count keys) whole begun row code = ⊥
LineFaults (limit offset count) whole begun row code = ⊥
LineFaults (exchange kind keys) whole begun row code = ⊥

-- The node with this number can meet this fault, with this row.
abbrev pub Faulty : Tree → ℕ → Row → Fault → Type 0
Faulty (values id kinds all parallel) at row code = ⊥
Faulty (over id own source) at row code = (id ≡ at) × LineFaults own (Answers source) (Begun source) row code ⊎ Faulty source at row code
Faulty (join id kind left_keys right_keys left right) at row code = Faulty left at row code ⊎ Faulty right at row code

-- ---- the first fault in post-order, the left source before the right one

-- the first row of a list on which an expression faults
pub record StopsAtRow (exprs : List Expr) (From : List Row → Type 0) (row : Row) (code : Fault) : Type 0 where
  pub input : List Row
  pub from : From input
  pub place : ℕ
  pub before : All (IsSound exprs) (take place input)
  pub there : slice_get input place ≡ Some row
  pub fault : first_fault exprs row ≡ Some code

-- a fault of the node itself, over an answer of its source
abbrev pub LineStops : Own → (List Row → Type 0) → Row → Fault → Type 0
LineStops (filter predicate) whole row code = StopsAtRow (predicate ∷ []) whole row code
LineStops (project exprs) whole row code = StopsAtRow exprs whole row code
LineStops (aggregation step keys aggregates) whole row code = GroupFaults step keys aggregates whole row code
LineStops (order keys) whole row code = ⊥
LineStops (topn count keys) whole row code = ⊥
LineStops (limit offset count) whole row code = ⊥
LineStops (exchange kind keys) whole row code = ⊥

-- Whoever evaluates one node after another, each over an answer of its source, can stop with this fault: all nodes
-- that come before it have given an answer.
abbrev pub IsFirstFault : Tree → ℕ → Row → Fault → Type 0
IsFirstFault (values id kinds all parallel) at row code = ⊥
IsFirstFault (over id own source) at row code = IsFirstFault source at row code ⊎ (id ≡ at) × LineStops own (Answers source) row code
IsFirstFault (join id kind left_keys right_keys left right) at row code = IsFirstFault left at row code ⊎ ((rows : List Row) × Answers left rows) × IsFirstFault right at row code
