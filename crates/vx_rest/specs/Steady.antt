-- What a query's type keeps beside its meaning.
use Rattle.std.specs.Prelude.{◌≡◌, ◌≢◌, ℕ, ◌<◌, true, [], ⊤}
use Rattle.vx_plan.specs.Tree.{Tree, values, over, join}
use Rattle.vx_rest.specs.Lists.{nothing, drivers_of}
use Rattle.vx_rest.specs.Fits.{Within}
use Rattle.vx_rest.specs.Through.{IsJoinThrough}
use Rattle.vx_rest.specs.Ends.{AllEnd, IsDrained, AreEndsRight, HaveNoMoreHands, RowsStarted}
use Rattle.vx_rest.specs.Machine.{Machine}
use Rattle.vx_rest.specs.Changes.{FullHaveRows, KnowsEnd}

-- of one node: who waits for its end knows of it; a full queue has rows; a join that is through holds nothing
abbrev pub IsSteadyAt : ℕ → Machine → Tree → Type 0
IsSteadyAt drivers m (values id kinds all parallel) = ⊤
IsSteadyAt drivers m (over id own source) = ((driver : ℕ) → driver < drivers_of drivers source → m.ends.input id driver ≡ true → KnowsEnd own (m.query.held id driver))
    × FullHaveRows m id
IsSteadyAt drivers m (join id kind left_keys right_keys left right) =
    (m.through id ≡ true → IsJoinThrough (m.query.join id) × (m.ends.input id 0 ≡ true) × AllEnd (drivers_of drivers right) (m.ends.build id))
    × (m.leaving id ≡ true → (m.query.join id).build ≢ [])

-- of the whole query
pub record IsSteady (drivers : ℕ) (t : Tree) (m : Machine) : Type 0 where
  pub right : AreEndsRight drivers m.ends m.query t
  pub hands : HaveNoMoreHands drivers m.query t
  pub rows : RowsStarted drivers m.ends m.query t
  pub nodes : (part : Tree) → Within part t → IsSteadyAt drivers m part
  pub done : m.done ≡ true → IsDrained drivers m.ends m.query t 0
