-- What may still come out of a query, by what it holds now.
use Rattle.std.specs.Prelude.{◌≡◌, ℕ, ◌<◌, ◌%◌, Bool, true, nat_eq, List, [], ◌∷◌, ◌++◌, map, filter, take, drop, Ok, All, IsPermutation}
use Rattle.vx_value.specs.declared.sorting.SortKey.{SortKey}
use Rattle.vx_value.specs.Order.{IsSortedBy}
use Rattle.vx_value.specs.Row.{Row}
use Rattle.vx_value.specs.KeyBytes.{key_bytes}
use Rattle.vx_value.specs.Hash.{hash_of}
use Rattle.vx_expr.specs.declared.expression.Expr.{Expr}
use Rattle.vx_plan.specs.declared.aggregate.Aggregate.{Aggregate}
use Rattle.vx_plan.specs.declared.aggregate.Step.{Step}
use Rattle.vx_plan.specs.declared.node.ExchangeKind.{ExchangeKind}
use Rattle.vx_plan.specs.declared.node.ExchangeKind.TheVariants.{Gather, Hash}
use Rattle.vx_plan.specs.Tree.{Tree, values, over, join, Own, filter as filtering, project, aggregation, order, topn, limit, exchange}
use Rattle.vx_meaning.specs.Rows.{holds, image, IsSound}
use Rattle.vx_meaning.specs.Joins.{Build, fresh, joined}
use Rattle.vx_meaning.specs.Answer.{joined_on}
use Rattle.vx_rest.specs.Lists.{Lists, together, drivers_of}
use Rattle.vx_rest.specs.Held.{Held, HeldJoin, Holding, group_of, outcomes}

-- where its input has ended an operator gets nothing more
abbrev pub EndsWith : Bool → List Row → Type 0
EndsWith ended more = ended ≡ true → more ≡ []

-- ---- one driver's operator: what it keeps, the rows that it may still get, and those that it may still give

-- a filter gives what it holds, and of what comes the rows on which the predicate is true
pub record Filters (predicate : Expr) (held : Held) (more given : List Row) : Type 0 where
  pub sound : All (IsSound (predicate ∷ [])) more
  pub is : given ≡ held.rows ++ filter (holds predicate) more

-- a project gives what it holds, and the image of what comes
pub record Projects (exprs : List Expr) (held : Held) (more given : List Row) : Type 0 where
  pub sound : All (IsSound exprs) more
  pub is : given ≡ held.rows ++ map (image exprs) more

-- an aggregation gives the outcome of each key
pub record Groups (step : Step) (keys : List ℕ) (aggregates : List Aggregate) (held : Held) (more given : List Row) : Type 0 where
  pub ends : EndsWith held.ended more
  pub is : IsPermutation (outcomes step aggregates (held.groups ++ map (group_of step keys aggregates) more)) (map Ok given)

-- an order gives what it holds and what comes, sorted
pub record Orders (keys : List SortKey) (held : Held) (more given : List Row) : Type 0 where
  pub ends : EndsWith held.ended more
  pub same : IsPermutation (held.rows ++ more) given
  pub sorted : IsSortedBy keys given

-- a top-n gives the first of that
pub record TakesFirst (keys : List SortKey) (held : Held) (more given : List Row) : Type 0 where
  pub all : List Row
  pub ordered : Orders keys held more all
  pub is : given ≡ take held.left all

-- a limit gives what it holds, and of what comes the next `left` after `skip`
pub record Limits (held : Held) (more given : List Row) : Type 0 where
  pub is : given ≡ held.rows ++ take held.left (drop held.skip more)

-- an exchange isn't one driver's
abbrev pub Gives : Own → Held → List Row → List Row → Type 0
Gives (filtering predicate) held more given = Filters predicate held more given
Gives (project exprs) held more given = Projects exprs held more given
Gives (aggregation step keys aggregates) held more given = Groups step keys aggregates held more given
Gives (order keys) held more given = Orders keys held more given
Gives (topn count keys) held more given = TakesFirst keys held more given
Gives (limit offset count) held more given = Limits held more given
Gives (exchange kind keys) held more given = ⊥

-- ---- exchanges

-- whether a row belongs to a queue
abbrev pub belongs : ExchangeKind → List ℕ → ℕ → ℕ → Row → Bool
belongs Gather keys queues queue row = true
belongs Hash keys queues queue row = nat_eq (hash_of (key_bytes keys row) % queues) queue

-- what may still come out of each queue: what stands in it, and what all drivers of the source still put into it
abbrev pub Deals : ExchangeKind → List ℕ → ℕ → (ℕ → Held) → List Row → Lists → Type 0
Deals kind keys queues held more given = (queue : ℕ) → queue < queues
    → IsPermutation ((held queue).rows ++ filter (belongs kind keys queues queue) more) (given queue)

-- ---- joins, by a function from left rows and build rows to joined rows

-- a join gives what it owes, and what left rows and build rows give, those to come included
pub record Joins (result : List Row → List Build → List Row) (held : HeldJoin) (left right given : List Row) : Type 0 where
  pub built : EndsWith held.built right
  pub ends : EndsWith held.ended left
  pub is : IsPermutation (held.owed ++ result (held.deferred ++ left) (held.build ++ map fresh right)) given

-- ---- all drivers of a node

-- values nodes give what they hold, in any order over the drivers
abbrev pub ValuesGive : ℕ → (ℕ → Held) → Lists → Type 0
ValuesGive count held given = IsPermutation (together count (λ driver. (held driver).rows)) (together count given)

-- by how many drivers the source and the node itself have
abbrev pub NodeGives : ℕ → ℕ → Own → (ℕ → Held) → Lists → Lists → Type 0
NodeGives before after (exchange kind keys) held more given = Deals kind keys after held (together before more) given
NodeGives before after own held more given = (driver : ℕ) → driver < after
    → Gives own (held driver) (more driver) (given driver)

-- ---- the whole plan

-- What may still be taken from a node: its hands, and then what it still gives.
abbrev pub Comes : Lists → (Lists → Type 0) → Lists → Type 0
Comes hand Give lists = (given : Lists) × Give given × ((driver : ℕ) → lists driver ≡ hand driver ++ given driver)

-- lists of a node, by some lists of its source
pub record OverRest (From : Lists → Type 0) (Give : Lists → Lists → Type 0) (given : Lists) : Type 0 where
  pub more : Lists
  pub from : From more
  pub gives : Give more given

-- lists of a join, by some lists of both sources
pub record JoinRest (Left Right : Lists → Type 0) (Give : Lists → Lists → Lists → Type 0) (given : Lists) : Type 0 where
  pub left : Lists
  pub from_left : Left left
  pub right : Lists
  pub from_right : Right right
  pub gives : Give left right given

-- of a join only the first driver's lists count, and all lists of its right source
abbrev pub JoinGives : (List Row → List Build → List Row) → ℕ → HeldJoin → Lists → Lists → Lists → Type 0
JoinGives result right_lanes held left right given = Joins result held (left 0) (together right_lanes right) (given 0)

-- what may still be taken from a plan's root
abbrev pub Rest : ℕ → Holding → Tree → Lists → Type 0
Rest drivers q (values id kinds all parallel) lists =
    Comes (q.hand id) (ValuesGive (drivers_of drivers (values id kinds all parallel)) (q.held id)) lists
Rest drivers q (over id own source) lists =
    Comes (q.hand id) (OverRest (Rest drivers q source) (NodeGives (drivers_of drivers source) (drivers_of drivers (over id own source)) own (q.held id))) lists
Rest drivers q (join id kind left_keys right_keys left right) lists =
    Comes (q.hand id) (JoinRest (Rest drivers q left) (Rest drivers q right)
    (JoinGives (joined kind (joined_on left_keys right_keys left right)) (drivers_of drivers right) (q.join id))) lists

-- all rows that may have come out at the end
pub record Stands (drivers : ℕ) (q : Holding) (t : Tree) (rows : List Row) : Type 0 where
  pub lists : Lists
  pub rest : Rest drivers q t lists
  pub is : rows ≡ q.out ++ lists 0
