-- A query in which nothing is left.
use Rattle.std.specs.Prelude.{◌≡◌, ◌⊎◌, ℕ, ◌<◌, []}
use Rattle.vx_plan.specs.Tree.{Tree, values, over, join, Own, aggregation, topn}
use Rattle.vx_rest.specs.Lists.{drivers_of}
use Rattle.vx_rest.specs.Held.{Held, HeldJoin, Holding}

-- an operator has nothing that it may still give; of a limit, where it gets nothing more
abbrev pub IsThrough : Own → Held → Type 0
IsThrough (aggregation step keys aggregates) held = held.groups ≡ []
IsThrough (topn count keys) held = (held.rows ≡ []) ⊎ (held.left ≡ 0)
IsThrough own held = held.rows ≡ []

-- a join holds and owes nothing
pub record IsJoinThrough (held : HeldJoin) : Type 0 where
  pub build : held.build ≡ []
  pub deferred : held.deferred ≡ []
  pub owed : held.owed ≡ []

-- in a node and below it nothing is left
abbrev pub IsQuiet : ℕ → Holding → Tree → Type 0
IsQuiet drivers q (values id kinds all parallel) = ((driver : ℕ) → q.hand id driver ≡ [])
    × ((driver : ℕ) → driver < drivers_of drivers (values id kinds all parallel) → (q.held id driver).rows ≡ [])
IsQuiet drivers q (over id own source) =
    ((driver : ℕ) → q.hand id driver ≡ []) × IsQuiet drivers q source
    × ((driver : ℕ) → driver < drivers_of drivers (over id own source) → IsThrough own (q.held id driver))
IsQuiet drivers q (join id kind left_keys right_keys left right) = ((driver : ℕ) → q.hand id driver ≡ [])
    × IsQuiet drivers q left × IsQuiet drivers q right × IsJoinThrough (q.join id)
