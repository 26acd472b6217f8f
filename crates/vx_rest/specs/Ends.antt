-- Ends that were passed on: where an input has ended nothing more comes from it.
use Rattle.std.specs.Prelude.{◌≡◌, ◌≢◌, ◌⊎◌, ℕ, ◌<◌, ◌≤◌, Bool, true, [], ⊤}
use Rattle.vx_plan.specs.Tree.{Tree, values, over, join, Own, filter, project, aggregation, order, topn, limit, exchange}
use Rattle.vx_plan.specs.declared.widths.Width.{Width}
use Rattle.vx_plan.specs.declared.widths.Width.TheVariants.{One, Many}
use Rattle.vx_plan.specs.Width.{width_of}
use Rattle.vx_meaning.specs.Lines.{spread}
use Rattle.vx_rest.specs.Lists.{drivers_of}
use Rattle.vx_rest.specs.Held.{Held, Holding}
use Rattle.vx_rest.specs.Through.{IsThrough, IsJoinThrough}

-- By node and driver of its source: whether that driver has passed its end on to the node; of a join, to the probe and
-- to the build.
pub record Ends : Type 0 where
  pub input : ℕ → ℕ → Bool
  pub build : ℕ → ℕ → Bool

-- all of the first so many drivers have ended
abbrev pub AllEnd : ℕ → (ℕ → Bool) → Type 0
AllEnd count ended = (driver : ℕ) → driver < count → ended driver ≡ true

-- a driver gets nothing more from a node
abbrev pub IsDrained : ℕ → Ends → Holding → Tree → ℕ → Type 0
IsDrained drivers e q (values id kinds all parallel) driver = (q.hand id driver ≡ []) × ((q.held id driver).rows ≡ [])
IsDrained drivers e q (over id (exchange kind keys) source) driver = (q.hand id driver ≡ [])
    × ((q.held id driver).rows ≡ []) × AllEnd (drivers_of drivers source) (e.input id)
IsDrained drivers e q (over id own source) driver = (q.hand id driver ≡ []) × IsThrough own (q.held id driver)
    × (e.input id driver ≡ true)
IsDrained drivers e q (join id kind left_keys right_keys left right) driver = (q.hand id driver ≡ [])
    × IsJoinThrough (q.join id) × (e.input id 0 ≡ true) × AllEnd (drivers_of drivers right) (e.build id)

-- an end comes only after everything before it, and an operator knows of no end that wasn't passed on
abbrev pub AreEndsRight : ℕ → Ends → Holding → Tree → Type 0
AreEndsRight drivers e q (values id kinds all parallel) = ⊤
AreEndsRight drivers e q (over id own source) =
    AreEndsRight drivers e q source
    × ((driver : ℕ) → driver < drivers_of drivers source → e.input id driver ≡ true → IsDrained drivers e q source driver)
    × ((driver : ℕ) → driver < drivers_of drivers source → (q.held id driver).ended ≡ true → e.input id driver ≡ true)
AreEndsRight drivers e q (join id kind left_keys right_keys left right) =
    AreEndsRight drivers e q left × AreEndsRight drivers e q right
    × (e.input id 0 ≡ true → IsDrained drivers e q left 0)
    × ((driver : ℕ) → driver < drivers_of drivers right → e.build id driver ≡ true → IsDrained drivers e q right driver)
    × ((q.join id).ended ≡ true → e.input id 0 ≡ true)

-- no driver beyond those of a pipeline has a hand
abbrev pub HaveNoMoreHands : ℕ → Holding → Tree → Type 0
HaveNoMoreHands drivers q (values id kinds all parallel) = (driver : ℕ)
    → drivers_of drivers (values id kinds all parallel) ≤ driver → q.hand id driver ≡ []
HaveNoMoreHands drivers q (over id own source) = HaveNoMoreHands drivers q source
    × ((driver : ℕ) → drivers_of drivers (over id own source) ≤ driver → q.hand id driver ≡ [])
HaveNoMoreHands drivers q (join id kind left_keys right_keys left right) = HaveNoMoreHands drivers q left
    × HaveNoMoreHands drivers q right × ((driver : ℕ) → 1 ≤ driver → q.hand id driver ≡ [])

-- By flags alone, none of which is ever taken back: the node may have given rows. Below it each node that first needs
-- whole lists has got them.
abbrev pub has_begun : Width → Type 0 → Type 0 → Type 0
has_begun One whole begun = whole
has_begun Many whole begun = begun

-- the node may have given rows, by the flags below it
abbrev pub HasStarted : ℕ → Ends → Tree → Type 0
HasStarted drivers e (values id kinds all parallel) = ⊤
HasStarted drivers e (over id (filter x) source) = HasStarted drivers e source
HasStarted drivers e (over id (project x) source) = HasStarted drivers e source
HasStarted drivers e (over id (aggregation step keys aggregates) source) =
    has_begun (spread step (width_of source)) ((driver : ℕ) × (driver < drivers_of drivers source) × (e.input id driver ≡ true)) (HasStarted drivers e source)
HasStarted drivers e (over id (order keys) source) = e.input id 0 ≡ true
HasStarted drivers e (over id (topn count keys) source) = e.input id 0 ≡ true
HasStarted drivers e (over id (limit offset count) source) = HasStarted drivers e source
HasStarted drivers e (over id (exchange kind keys) source) = HasStarted drivers e source
HasStarted drivers e (join id kind left_keys right_keys left right) = AllEnd (drivers_of drivers right) (e.build id)
    × ((e.input id 0 ≡ true) ⊎ HasStarted drivers e left)

-- what an operator must have before it gives a row: rows, or of one that waits for its end that end
abbrev pub MayGive : Ends → Own → ℕ → Held → ℕ → Type 0
MayGive e (aggregation step keys aggregates) id held driver = e.input id driver ≡ true
MayGive e (order keys) id held driver = e.input id driver ≡ true
MayGive e (topn count keys) id held driver = e.input id driver ≡ true
MayGive e own id held driver = held.rows ≢ []

-- rows come only out of what has started
abbrev pub HeldStarted : ℕ → Ends → Holding → ℕ → Own → Tree → Type 0
HeldStarted drivers e q id (aggregation step keys aggregates) source = ⊤
HeldStarted drivers e q id (order keys) source = ⊤
HeldStarted drivers e q id (topn count keys) source = ⊤
HeldStarted drivers e q id own source = (driver : ℕ) → driver < drivers_of drivers (over id own source)
    → (q.held id driver).rows ≢ [] → HasStarted drivers e source

-- of a node and all below it
abbrev pub RowsStarted : ℕ → Ends → Holding → Tree → Type 0
RowsStarted drivers e q (values id kinds all parallel) = ⊤
RowsStarted drivers e q (over id own source) =
    RowsStarted drivers e q source
    × ((driver : ℕ) → q.hand id driver ≢ [] → HasStarted drivers e (over id own source))
    × HeldStarted drivers e q id own source
RowsStarted drivers e q (join id kind left_keys right_keys left right) =
    RowsStarted drivers e q left × RowsStarted drivers e q right
    × ((driver : ℕ) → q.hand id driver ≢ [] → HasStarted drivers e (join id kind left_keys right_keys left right))
    × ((q.join id).owed ≢ [] → HasStarted drivers e (join id kind left_keys right_keys left right))
