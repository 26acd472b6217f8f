-- The faults that a query can still meet, by what it holds now.
use Rattle.std.specs.Prelude.{◌≡◌, ◌⊎◌, ℕ, ◌<◌, false, List, [], ◌∷◌, ◌++◌, map, Ok, Err, Some, Contains, IsPermutation}
use Rattle.vx_value.specs.Row.{Row}
use Rattle.vx_expr.specs.declared.expression.Expr.{Expr}
use Rattle.vx_expr.specs.declared.outcome.Fault.{Fault}
use Rattle.vx_expr.specs.declared.outcome.Fault.TheVariants.{Overflow}
use Rattle.vx_plan.specs.declared.aggregate.Aggregate.{Aggregate}
use Rattle.vx_plan.specs.declared.aggregate.Step.{Step}
use Rattle.vx_plan.specs.declared.widths.Width.{Width}
use Rattle.vx_plan.specs.declared.widths.Width.TheVariants.{One, Many}
use Rattle.vx_plan.specs.Tree.{Tree, values, over, join, Own, filter, project, aggregation, order, topn, exchange}
use Rattle.vx_plan.specs.Width.{width_of}
use Rattle.vx_meaning.specs.Rows.{first_fault}
use Rattle.vx_meaning.specs.Groups.{Outcome}
use Rattle.vx_meaning.specs.Joins.{Build, joined, probed}
use Rattle.vx_meaning.specs.Lines.{spread}
use Rattle.vx_meaning.specs.Answer.{joined_on}
use Rattle.vx_rest.specs.Lists.{Lists, together, drivers_of}
use Rattle.vx_rest.specs.Held.{Held, HeldJoin, Holding, group_of, outcomes}
use Rattle.vx_rest.specs.Rest.{EndsWith, Gives, Deals, ValuesGive, JoinGives, OverRest, JoinRest, Rest}

-- ---- what may come out before the rest is known to be without a fault

-- of an aggregation only the groups that come out must not overflow
pub record SomeGroups (step : Step) (keys : List ℕ) (aggregates : List Aggregate) (held : Held) (more given : List Row) : Type 0 where
  pub ends : EndsWith held.ended more
  pub later : List Outcome
  pub is : IsPermutation (outcomes step aggregates (held.groups ++ map (group_of step keys aggregates) more)) (map Ok given ++ later)

-- one driver's operator, as far as can be told while rows still come
abbrev pub BeginsToGive : Own → Held → List Row → List Row → Type 0
BeginsToGive (aggregation step keys aggregates) held more given = SomeGroups step keys aggregates held more given
BeginsToGive own held more given = Gives own held more given

-- all drivers of a node
abbrev pub NodeBegins : ℕ → ℕ → Own → (ℕ → Held) → Lists → Lists → Type 0
NodeBegins before after (exchange kind keys) held more given = Deals kind keys after held (together before more) given
NodeBegins before after own held more given = (driver : ℕ) → driver < after
    → BeginsToGive own (held driver) (more driver) (given driver)

-- an aggregation that deals its rows out gives groups before its source has ended, any other one after it
abbrev pub grouped_from : Width → (Lists → Type 0) → (Lists → Type 0) → Lists → Type 0
grouped_from One whole begun = whole
grouped_from Many whole begun = begun

-- whether the source may have begun only
abbrev pub begun_source : Own → Width → (Lists → Type 0) → (Lists → Type 0) → Lists → Type 0
begun_source (aggregation step keys aggregates) source whole begun = grouped_from (spread step source) whole begun
begun_source (order keys) source whole begun = whole
begun_source (topn count keys) source whole begun = whole
begun_source own source whole begun = begun

-- the hands, and then what a node gives, each list cut anywhere
abbrev pub Starts : Lists → (Lists → Type 0) → Lists → Type 0
Starts hand Give lists = (given : Lists) × Give given
    × ((driver : ℕ) → (later : List Row) × (lists driver ++ later ≡ hand driver ++ given driver))

-- while its left source goes on, a join leaves the right rows without a match out
abbrev pub JoinBegins : (List Row → List Build → List Row) → ℕ → HeldJoin → Lists → Lists → Lists → Type 0
JoinBegins result right_lanes held left right given = (held.ended ≡ false)
    × JoinGives result right_lanes held left right given

-- what may still be taken from a plan's root, before the rest is known to be without a fault
abbrev pub RestBegun : ℕ → Holding → Tree → Lists → Type 0
RestBegun drivers q (values id kinds all parallel) lists =
    Starts (q.hand id) (ValuesGive (drivers_of drivers (values id kinds all parallel)) (q.held id)) lists
RestBegun drivers q (over id own source) lists =
    Starts (q.hand id) (OverRest (begun_source own (width_of source) (Rest drivers q source) (RestBegun drivers q source))
    (NodeBegins (drivers_of drivers source) (drivers_of drivers (over id own source)) own (q.held id))) lists
RestBegun drivers q (join id kind left_keys right_keys left right) lists =
    Starts (q.hand id) (JoinRest (Rest drivers q left) (Rest drivers q right)
    (JoinGives (joined kind (joined_on left_keys right_keys left right)) (drivers_of drivers right) (q.join id))) lists
    ⊎ Starts (q.hand id) (JoinRest (RestBegun drivers q left) (Rest drivers q right)
    (JoinBegins (probed kind (joined_on left_keys right_keys left right)) (drivers_of drivers right) (q.join id))) lists

-- ---- faults

-- a row to come on which an expression faults
pub record RowMeets (exprs : List Expr) (more : List Row) (row : Row) (code : Fault) : Type 0 where
  pub there : Contains more row
  pub fault : first_fault exprs row ≡ Some code

-- a group that overflows
pub record GroupMeets (step : Step) (keys : List ℕ) (aggregates : List Aggregate) (held : Held) (more : List Row) (key : Row) (code : Fault) : Type 0 where
  pub ends : EndsWith held.ended more
  pub there : Contains (outcomes step aggregates (held.groups ++ map (group_of step keys aggregates) more)) (Err key)
  pub fault : code ≡ Overflow

-- one driver's operator meets a fault, where so many rows may still come
abbrev pub Meets : Own → Held → List Row → Row → Fault → Type 0
Meets (filter predicate) held more row code = RowMeets (predicate ∷ []) more row code
Meets (project exprs) held more row code = RowMeets exprs more row code
Meets (aggregation step keys aggregates) held more row code = GroupMeets step keys aggregates held more row code
Meets own held more row code = ⊥

-- by which lists of its source an operator meets its faults
abbrev pub faulty_source : Own → (Lists → Type 0) → (Lists → Type 0) → Lists → Type 0
faulty_source (aggregation step keys aggregates) whole begun = whole
faulty_source own whole begun = begun

-- some driver of a node meets it
pub record NodeMeets (before : ℕ) (own : Own) (held : ℕ → Held) (From : Lists → Type 0) (row : Row) (code : Fault) : Type 0 where
  pub more : Lists
  pub from : From more
  pub driver : ℕ
  pub within : driver < before
  pub meets : Meets own (held driver) (more driver) row code

-- some node of the plan meets it
abbrev pub RestFaulty : ℕ → Holding → Tree → ℕ → Row → Fault → Type 0
RestFaulty drivers q (values id kinds all parallel) at row code = ⊥
RestFaulty drivers q (over id own source) at row code =
    (id ≡ at)
    × NodeMeets (drivers_of drivers source) own (q.held id) (faulty_source own (Rest drivers q source) (RestBegun drivers q source)) row code
    ⊎ RestFaulty drivers q source at row code
RestFaulty drivers q (join id kind left_keys right_keys left right) at row code = RestFaulty drivers q left at row code
    ⊎ RestFaulty drivers q right at row code
