-- What an operator's call has to keep, in its own words: `taken` are the rows that the call takes in, `put` those that
-- it gives. Each call has one of the two at most, and of `finish`, a merge and a reclaim both are [].
use Rattle.std.specs.Prelude.{◌≡◌, ℕ, ◌<◌, false, List, [], ◌∷◌, ◌++◌, map, filter, take, drop, Ok, All, IsPermutation}
use Rattle.vx_value.specs.declared.sorting.SortKey.{SortKey}
use Rattle.vx_value.specs.Order.{IsSortedBy}
use Rattle.vx_value.specs.Row.{Row}
use Rattle.vx_expr.specs.declared.expression.Expr.{Expr}
use Rattle.vx_expr.specs.declared.outcome.Fault.{Fault}
use Rattle.vx_plan.specs.declared.aggregate.Aggregate.{Aggregate}
use Rattle.vx_plan.specs.declared.aggregate.Step.{Step}
use Rattle.vx_plan.specs.declared.node.ExchangeKind.{ExchangeKind}
use Rattle.vx_plan.specs.Tree.{Own, exchange}
use Rattle.vx_meaning.specs.Rows.{holds, image, IsSound}
use Rattle.vx_plan.specs.declared.node.JoinKind.{JoinKind}
use Rattle.vx_meaning.specs.Joins.{On, Build, fresh, joined, probed}
use Rattle.vx_rest.specs.Lists.{Lists, together}
use Rattle.vx_rest.specs.Held.{Held, HeldJoin, group_of, outcomes}
use Rattle.vx_rest.specs.Rest.{EndsWith, Gives, belongs}
use Rattle.vx_rest.specs.RestFaulty.{BeginsToGive, Meets}

-- what one driver's operator owes, by its rule
pub record Keeps (own : Own) (old new : Held) (taken put : List Row) : Type 0 where
  pub whole : (more given : List Row) → Gives own new more given → Gives own old (taken ++ more) (put ++ given)
  pub begun : (more given : List Row) → BeginsToGive own new more given
      → BeginsToGive own old (taken ++ more) (put ++ given)
  pub faults : (more : List Row) (row : Row) (code : Fault) → Meets own new more row code
      → Meets own old (taken ++ more) row code

-- ---- and kind by kind

-- no row that was taken faults, and those on which the predicate is true are held or given, in their order
pub record FilterKeeps (predicate : Expr) (old new : Held) (taken put : List Row) : Type 0 where
  pub sound : All (IsSound (predicate ∷ [])) taken
  pub is : old.rows ++ filter (holds predicate) taken ≡ put ++ new.rows

-- no row that was taken faults, and each one's image is held or given, in their order
pub record ProjectKeeps (exprs : List Expr) (old new : Held) (taken put : List Row) : Type 0 where
  pub sound : All (IsSound exprs) taken
  pub is : old.rows ++ map (image exprs) taken ≡ put ++ new.rows

-- whatever rows come, those that count are the same
abbrev pub LimitKeeps : Held → Held → List Row → List Row → Type 0
LimitKeeps old new taken put = (more : List Row)
    → old.rows ++ take old.left (drop old.skip (taken ++ more)) ≡ put ++ (new.rows ++ take new.left (drop new.skip more))

-- with these rows still to come, the outcomes before are those given and those after
pub record GroupsKept (step : Step) (keys : List ℕ) (aggregates : List Aggregate) (old new : Held) (taken put more : List Row) : Type 0 where
  pub ends : EndsWith old.ended (taken ++ more)
  pub is : IsPermutation (outcomes step aggregates (old.groups ++ map (group_of step keys aggregates) (taken ++ more))) (map Ok put ++ outcomes step aggregates (new.groups ++ map (group_of step keys aggregates) more))

-- whatever rows come
abbrev pub GroupKeeps : Step → List ℕ → List Aggregate → Held → Held → List Row → List Row → Type 0
GroupKeeps step keys aggregates old new taken put = (more : List Row) → EndsWith new.ended more
    → GroupsKept step keys aggregates old new taken put more

-- with these rows still to come, none is lost, and what is given stands before what is left in order
pub record OrderKept (keys : List SortKey) (old new : Held) (taken put more : List Row) : Type 0 where
  pub ends : EndsWith old.ended (taken ++ more)
  pub same : IsPermutation (old.rows ++ (taken ++ more)) (put ++ (new.rows ++ more))
  pub sorted : (given : List Row) → IsPermutation (new.rows ++ more) given → IsSortedBy keys given
      → IsSortedBy keys (put ++ given)

-- whatever rows come
abbrev pub OrderKeeps : List SortKey → Held → Held → List Row → List Row → Type 0
OrderKeeps keys old new taken put = (more : List Row) → EndsWith new.ended more → OrderKept keys old new taken put more

-- also that so many fewer rows are left
pub record TopKeeps (keys : List SortKey) (old new : Held) (taken put : List Row) : Type 0 where
  pub order : OrderKeeps keys old new taken put
  pub left : (given : List Row) → take old.left (put ++ given) ≡ put ++ take new.left given

-- ---- an exchange, with all drivers of its source and all its queues

-- in each queue stands what stood there and what belongs there of the rows taken, less the rows given
abbrev pub ExchangeKeeps : ExchangeKind → List ℕ → ℕ → ℕ → (ℕ → Held) → (ℕ → Held) → Lists → Lists → Type 0
ExchangeKeeps kind keys before queues old new taken put =
    (queue : ℕ) → queue < queues
    → IsPermutation ((old queue).rows ++ filter (belongs kind keys queues queue) (together before taken)) (put queue ++ (new queue).rows)

-- what all drivers of a node with one source owe
abbrev pub AllKeep : ℕ → ℕ → Own → (ℕ → Held) → (ℕ → Held) → Lists → Lists → Type 0
AllKeep before after (exchange kind keys) old new taken put = ExchangeKeeps kind keys before after old new taken put
AllKeep before after own old new taken put = (driver : ℕ)
    → Keeps own (old driver) (new driver) (taken driver) (put driver)

-- ---- values, with all drivers

-- no row is lost
abbrev pub ValuesKeep : ℕ → (ℕ → Held) → (ℕ → Held) → Lists → Type 0
ValuesKeep count old new put =
    IsPermutation (together count (λ driver. (old driver).rows)) (together count put ++ together count (λ driver. (new driver).rows))

-- ---- joins, for its joined rows and for what left rows give

-- with these rows still to come on both sides, what was owed and joined before is what is given, owed and joined after
pub record JoinKept (result : List Row → List Build → List Row) (old new : HeldJoin) (taken_left taken_right put left right : List Row) : Type 0 where
  pub built : EndsWith old.built (taken_right ++ right)
  pub ends : EndsWith old.ended (taken_left ++ left)
  pub is : IsPermutation (old.owed ++ result (old.deferred ++ (taken_left ++ left)) (old.build ++ map fresh (taken_right ++ right))) (put ++ (new.owed ++ result (new.deferred ++ left) (new.build ++ map fresh right)))

-- whatever rows come
abbrev pub JoinKeeps : (List Row → List Build → List Row) → HeldJoin → HeldJoin → List Row → List Row → List Row
    → Type 0
JoinKeeps result old new taken_left taken_right put =
    (left right : List Row) → EndsWith new.built right → EndsWith new.ended left
    → JoinKept result old new taken_left taken_right put left right

-- while the left source goes on
abbrev pub JoinKeepsBegun : (List Row → List Build → List Row) → HeldJoin → HeldJoin → List Row → List Row → List Row
    → Type 0
JoinKeepsBegun result old new taken_left taken_right put =
    new.ended ≡ false → (old.ended ≡ false) × JoinKeeps result old new taken_left taken_right put

-- what a join's call keeps, for its joined rows and for what left rows give
pub record JoinCall (kind : JoinKind) (on : On) (old new : HeldJoin) (taken_left taken_right put : List Row) : Type 0 where
  pub whole : JoinKeeps (joined kind on) old new taken_left taken_right put
  pub begun : JoinKeepsBegun (probed kind on) old new taken_left taken_right put
