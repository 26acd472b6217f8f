-- What an operator's call keeps by its plain facts: one law for each kind of call.
use Rattle.std.specs.Prelude.{◌≡◌, ◌≢◌, ℕ, ◌<◌, ◌+◌, ◌-◌, true, false, List, [], ◌++◌, map, filter, take, drop, length, Ok, IsPermutation}
use Rattle.vx_value.specs.declared.sorting.SortKey.{SortKey}
use Rattle.vx_value.specs.Row.{Row}
use Rattle.vx_plan.specs.declared.aggregate.Aggregate.{Aggregate}
use Rattle.vx_plan.specs.declared.aggregate.Step.{Step}
use Rattle.vx_plan.specs.declared.node.ExchangeKind.{ExchangeKind}
use Rattle.vx_plan.specs.declared.node.JoinKind.{JoinKind}
use Rattle.vx_expr.specs.declared.expression.Expr.{Expr}
use Rattle.vx_plan.specs.Tree.{filter as filtering, project, aggregation, order, topn, limit}
use Rattle.vx_meaning.specs.Joins.{On, Build}
use Rattle.vx_rest.specs.Lists.{nothing, only_at}
use Rattle.vx_rest.specs.Held.{Held, HeldJoin, Group}
use Rattle.vx_rest.specs.Rest.{belongs}
use Rattle.vx_rest.specs.Calls.{Keeps, FilterKeeps, ProjectKeeps, ExchangeKeeps, ValuesKeep, JoinCall}
use Rattle.vx_rest.specs.RowCalls.{LimitTakes, LimitGives, GivesFirst, GivesLast, TakesRows}
use Rattle.vx_rest.specs.GroupCalls.{GroupsTaken, GroupsStay, GroupsGiven}
use Rattle.vx_rest.specs.JoinCalls.{JoinStays, ProbesAnswered, OwedGiven, BuildsLeave}

-- ---- filter, project, limit

-- a filter takes or gives
abbrev pub FilterCallsKeep : Type 0
FilterCallsKeep = (predicate : Expr) (old new : Held) (taken put : List Row) → FilterKeeps predicate old new taken put
    → Keeps (filtering predicate) old new taken put

-- a project takes or gives
abbrev pub ProjectCallsKeep : Type 0
ProjectCallsKeep = (exprs : List Expr) (old new : Held) (taken put : List Row) → ProjectKeeps exprs old new taken put
    → Keeps (project exprs) old new taken put

-- a limit takes a batch
abbrev pub LimitTakesKeep : Type 0
LimitTakesKeep = (offset count : ℕ) (old new : Held) (taken : List Row) → LimitTakes old new taken
    → Keeps (limit offset count) old new taken []

-- a limit gives rows that it holds
abbrev pub LimitGivesKeep : Type 0
LimitGivesKeep = (offset count : ℕ) (old new : Held) (put : List Row) → LimitGives old new put
    → Keeps (limit offset count) old new [] put

-- ---- aggregation

-- an aggregation takes a batch
abbrev pub GroupTakesKeep : Type 0
GroupTakesKeep = (step : Step) (keys : List ℕ) (aggregates : List Aggregate) (old new : Held) (taken : List Row)
    → GroupsTaken step keys aggregates old new taken → Keeps (aggregation step keys aggregates) old new taken []

-- an end, a merge, a reclaim
abbrev pub GroupStaysKeep : Type 0
GroupStaysKeep = (step : Step) (keys : List ℕ) (aggregates : List Aggregate) (old new : Held)
    → GroupsStay aggregates old new → Keeps (aggregation step keys aggregates) old new [] []

-- an aggregation gives the rows of some keys
abbrev pub GroupGivesKeep : Type 0
GroupGivesKeep =
    (step : Step) (keys : List ℕ) (aggregates : List Aggregate) (old new : Held) (gone : List Group) (put : List Row)
    → GroupsGiven step aggregates old new gone put → Keeps (aggregation step keys aggregates) old new [] put

-- ---- order, top-n

-- rows taken in; with none, an end, a merge, a reclaim
abbrev pub OrderTakesKeep : Type 0
OrderTakesKeep = (keys : List SortKey) (old new : Held) (taken : List Row) → TakesRows old new taken
    → Keeps (order keys) old new taken []

-- an order gives its next rows
abbrev pub OrderGivesKeep : Type 0
OrderGivesKeep = (keys : List SortKey) (old new : Held) (put : List Row) → GivesFirst keys old new put
    → Keeps (order keys) old new [] put

-- a top-n takes rows in, as an order does
abbrev pub TopTakesKeep : Type 0
TopTakesKeep = (count : ℕ) (keys : List SortKey) (old new : Held) (taken : List Row) → TakesRows old new taken
    → new.left ≡ old.left → Keeps (topn count keys) old new taken []

-- a top-n gives its next rows
abbrev pub TopGivesKeep : Type 0
TopGivesKeep = (count : ℕ) (keys : List SortKey) (old new : Held) (put : List Row) → GivesFirst keys old new put
    → old.left ≡ length put + new.left → Keeps (topn count keys) old new [] put

-- a top-n gives its last rows, and lets the others go
abbrev pub TopLastKeeps : Type 0
TopLastKeeps = (count : ℕ) (keys : List SortKey) (old new : Held) (put rest : List Row)
    → GivesLast keys old new put rest
    → Keeps (topn count keys) old new [] put

-- ---- values, exchange

-- a values node gives rows in one driver
abbrev pub ValuesGiveKeep : Type 0
ValuesGiveKeep = (count : ℕ) (old new : ℕ → Held) (place : ℕ) (put : List Row)
    → ((driver : ℕ) → driver ≢ place → new driver ≡ old driver) → (old place).rows ≡ put ++ (new place).rows
    → ValuesKeep count old new (only_at place put)

-- a driver of the source puts a batch into the queues
abbrev pub ExchangeTakesKeep : Type 0
ExchangeTakesKeep =
    (kind : ExchangeKind) (keys : List ℕ) (before queues : ℕ) (old new : ℕ → Held) (place : ℕ) (taken : List Row)
    → place < before
    → ((queue : ℕ) → queue < queues
    → IsPermutation ((old queue).rows ++ filter (belongs kind keys queues queue) taken) (new queue).rows)
    → ExchangeKeeps kind keys before queues old new (only_at place taken) nothing

-- a batch comes out of a queue
abbrev pub ExchangeGivesKeep : Type 0
ExchangeGivesKeep =
    (kind : ExchangeKind) (keys : List ℕ) (before queues : ℕ) (old new : ℕ → Held) (place : ℕ) (put : List Row)
    → ((queue : ℕ) → queue ≢ place → new queue ≡ old queue) → (old place).rows ≡ put ++ (new place).rows
    → ExchangeKeeps kind keys before queues old new nothing (only_at place put)

-- ---- join

-- build rows taken in, probe rows put off, an end, a cut, rows on their way back
abbrev pub JoinStaysKeep : Type 0
JoinStaysKeep = (kind : JoinKind) (on : On) (old new : HeldJoin) (taken_left taken_right : List Row)
    → JoinStays old new taken_left taken_right → JoinCall kind on old new taken_left taken_right []

-- probe rows are answered
abbrev pub ProbesAnsweredKeep : Type 0
ProbesAnsweredKeep = (kind : JoinKind) (on : On) (old new : HeldJoin) (taken before : List Row)
    → ProbesAnswered kind on old new taken before → JoinCall kind on old new taken [] []

-- rows that are owed are given
abbrev pub OwedGivenKeep : Type 0
OwedGivenKeep = (kind : JoinKind) (on : On) (old new : HeldJoin) (put : List Row) → OwedGiven old new put
    → JoinCall kind on old new [] [] put

-- build rows that no further left row matches leave
abbrev pub BuildsLeaveKeep : Type 0
BuildsLeaveKeep = (kind : JoinKind) (on : On) (old new : HeldJoin) (gone : List Build) (put : List Row)
    → BuildsLeave kind on old new gone put → JoinCall kind on old new [] [] put
