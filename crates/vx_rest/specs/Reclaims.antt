-- A reclaim of one operator, which changes nothing that the query stands for.
use Rattle.std.specs.Prelude.{◌≡◌, ◌≢◌, ℕ, ◌<◌, ◌≤◌, [], length}
use Rattle.vx_plan.specs.Tree.{Tree, over, Own}
use Rattle.vx_rest.specs.Lists.{nothing, drivers_of}
use Rattle.vx_rest.specs.Fits.{Within}
use Rattle.vx_rest.specs.Calls.{AllKeep, JoinCall}
use Rattle.vx_rest.specs.HandMoves.{HandsStay}
use Rattle.vx_rest.specs.Through.{IsThrough, IsJoinThrough}
use Rattle.vx_rest.specs.Machine.{Machine, JoinNode, join_node, on_of, KeepsRows}
use Rattle.vx_rest.specs.Changes.{EndsStay, Here, HereJoin, OthersStay, OtherMemory, PartsStay, size}

-- a reclaim of an aggregation, an order or a top-n in one driver
pub record Reclaims (drivers : ℕ) (t : Tree) (id : ℕ) (own : Own) (source : Tree) (driver : ℕ) (old new : Machine) : Type 0 where
  pub within : Within (over id own source) t
  pub kind : KeepsRows own
  pub low : driver < drivers_of drivers (over id own source)
  pub hands : HandsStay old.query new.query
  pub here : Here id old new
  pub ends : EndsStay old new
  pub others : OthersStay driver (old.query.held id) (new.query.held id)
  pub ended : (new.query.held id driver).ended ≡ (old.query.held id driver).ended
  pub joins : new.query.join id ≡ old.query.join id
  pub parts : PartsStay id old new
  pub still : IsThrough own (old.query.held id driver) → IsThrough own (new.query.held id driver)
  pub keeps : AllKeep (drivers_of drivers source) (drivers_of drivers (over id own source)) own (old.query.held id) (new.query.held id) nothing nothing
  pub back : AllKeep (drivers_of drivers source) (drivers_of drivers (over id own source)) own (new.query.held id) (old.query.held id) nothing nothing
  pub memory : OtherMemory id driver old new
  pub size : size (new.query.held id driver) ≤ size (old.query.held id driver)
  pub kept : new.kept id driver < old.kept id driver

-- a reclaim of a join: its table is cut
pub record ReclaimsJoin (drivers : ℕ) (t : Tree) (j : JoinNode) (old new : Machine) : Type 0 where
  pub within : Within (join_node j) t
  pub hands : HandsStay old.query new.query
  pub here : HereJoin j old new
  pub ends : EndsStay old new
  pub ended : (new.query.join j.id).ended ≡ (old.query.join j.id).ended
  pub owed : (new.query.join j.id).owed ≡ (old.query.join j.id).owed
  pub still : IsJoinThrough (old.query.join j.id) → IsJoinThrough (new.query.join j.id)
  pub call : JoinCall j.kind (on_of j) (old.query.join j.id) (new.query.join j.id) [] [] []
  pub back : JoinCall j.kind (on_of j) (new.query.join j.id) (old.query.join j.id) [] [] []
  pub memory : OtherMemory j.id 0 old new
  pub weight : new.weight j.id ≤ old.weight j.id
  pub kept : new.kept j.id 0 < old.kept j.id 0
