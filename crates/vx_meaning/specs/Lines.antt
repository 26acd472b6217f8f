-- What each kind of node does to the lists of its source: one record a kind. `From` says which lists the source may
-- give, so that an answer and what is only begun share a line.
use Rattle.std.specs.Prelude.{◌≡◌, ℕ, ◌≤◌, List, [], ◌∷◌, map, filter, flat_map, Ok, length, take, drop, All, IsPermutation}
use Rattle.vx_value.specs.declared.sorting.SortKey.{SortKey}
use Rattle.vx_value.specs.Order.{IsSortedBy}
use Rattle.vx_value.specs.Row.{Row}
use Rattle.vx_expr.specs.declared.expression.Expr.{Expr}
use Rattle.vx_plan.specs.declared.aggregate.Aggregate.{Aggregate}
use Rattle.vx_plan.specs.declared.aggregate.Step.{Step}
use Rattle.vx_plan.specs.declared.aggregate.Step.TheVariants.{Single, Partial, Final}
use Rattle.vx_plan.specs.declared.widths.Width.{Width}
use Rattle.vx_plan.specs.declared.widths.Width.TheVariants.{One}
use Rattle.vx_plan.specs.Tree.{Own, filter as filtering, project, aggregation, order, topn, limit, exchange}
use Rattle.vx_meaning.specs.Rows.{holds, image, IsSound}
use Rattle.vx_meaning.specs.Groups.{Outcome, groups}
use Rattle.vx_meaning.specs.Joins.{Build, fresh}

-- the rows with a true predicate, in their order, where no row faults
pub record Filtered (predicate : Expr) (From : List Row → Type 0) (rows : List Row) : Type 0 where
  pub input : List Row
  pub from : From input
  pub sound : All (IsSound (predicate ∷ [])) input
  pub is : rows ≡ filter (holds predicate) input

-- the image of each row, in their order, where no row faults
pub record Projected (exprs : List Expr) (From : List Row → Type 0) (rows : List Row) : Type 0 where
  pub input : List Row
  pub from : From input
  pub sound : All (IsSound exprs) input
  pub is : rows ≡ map (image exprs) input

-- rows dealt into lists: one list where the width is One, else one or more
pub record Dealt (width : Width) (rows : List Row) (lists : List (List Row)) : Type 0 where
  pub some : 1 ≤ length lists
  pub one : width ≡ One → length lists ≡ 1
  pub all : IsPermutation rows (flat_map (λ list. list) lists)

-- into how many lists an aggregation's input is dealt: many only for a partial one over a source of width Many
abbrev pub spread : Step → Width → Width
spread Single source = One
spread Partial source = source
spread Final source = One

-- what becomes of the groups of each list, in any order
pub record Grouped (step : Step) (keys : List ℕ) (aggregates : List Aggregate) (width : Width) (From : List Row → Type 0) (outcomes : List Outcome) : Type 0 where
  pub input : List Row
  pub from : From input
  pub lists : List (List Row)
  pub dealt : Dealt width input lists
  pub is : IsPermutation (flat_map (groups step keys aggregates) lists) outcomes

-- what a join, or its first part, makes of a left and a right list, in any order
pub record Joined (join : List Row → List Build → List Row) (Left Right : List Row → Type 0) (rows : List Row) : Type 0 where
  pub left : List Row
  pub from_left : Left left
  pub right : List Row
  pub from_right : Right right
  pub is : IsPermutation (join left (map fresh right)) rows

-- the same rows in any order
pub record Shuffled (From : List Row → Type 0) (rows : List Row) : Type 0 where
  pub input : List Row
  pub from : From input
  pub is : IsPermutation input rows

-- the same rows in order; rows that tie stand in any order
pub record Ordered (keys : List SortKey) (From : List Row → Type 0) (rows : List Row) : Type 0 where
  pub input : List Row
  pub from : From input
  pub same : IsPermutation input rows
  pub sorted : IsSortedBy keys rows

-- the first rows of all rows in order
pub record FirstOf (count : ℕ) (keys : List SortKey) (From : List Row → Type 0) (rows : List Row) : Type 0 where
  pub sorted : List Row
  pub ordered : Ordered keys From sorted
  pub is : rows ≡ take count sorted

-- the rows at the places from offset up to offset + count
pub record Limited (offset count : ℕ) (From : List Row → Type 0) (rows : List Row) : Type 0 where
  pub input : List Row
  pub from : From input
  pub is : rows ≡ take count (drop offset input)

-- What a node with one source makes of its source's lists. Of an aggregation each outcome is a row, so that no sum or
-- count overflows.
abbrev pub Line : Own → Width → (List Row → Type 0) → List Row → Type 0
Line (filtering predicate) source From rows = Filtered predicate From rows
Line (project exprs) source From rows = Projected exprs From rows
Line (aggregation step keys aggregates) source From rows = Grouped step keys aggregates (spread step source) From (map Ok rows)
Line (order keys) source From rows = Ordered keys From rows
Line (topn count keys) source From rows = FirstOf count keys From rows
Line (limit offset count) source From rows = Limited offset count From rows
Line (exchange kind keys) source From rows = Shuffled From rows
