-- What a move changes.
use Rattle.std.specs.Prelude.{◌≡◌, ◌≢◌, ◌⊎◌, ◌||◌, ⊤, ℕ, ◌<◌, Bool, true, false, nat_eq, if◌then◌else◌, Option, Some, None, List, ◌++◌}
use Rattle.vx_plan.specs.declared.node.JoinKind.{JoinKind}
use Rattle.vx_value.specs.Row.{Row}
use Rattle.vx_expr.specs.declared.outcome.Fault.{Fault}
use Rattle.vx_plan.specs.Tree.{Tree, values, over, join, Own, id_of}
use Rattle.vx_meaning.specs.Joins.{joined, probed}
use Rattle.vx_meaning.specs.Answer.{joined_on}
use Rattle.vx_rest.specs.Lists.{Lists, ahead, nothing, drivers_of}
use Rattle.vx_rest.specs.Held.{Held, Holding}
use Rattle.vx_rest.specs.Rest.{ValuesGive, NodeGives, JoinGives}
use Rattle.vx_rest.specs.RestFaulty.{NodeBegins, JoinBegins, Meets}

-- By node and driver: the rows that were taken out of the hand behind the node, and those that the node put into it.
pub record Passed : Type 0 where
  pub taken : ℕ → Lists
  pub put : ℕ → Lists

-- each hand then has what it had and what was put into it, but what was taken
abbrev pub HandsPass : Passed → Holding → Holding → Type 0
HandsPass m old new = (id driver : ℕ) → m.taken id driver ++ new.hand id driver ≡ old.hand id driver ++ m.put id driver

-- What was allowed after was allowed before, with the rows taken in and the rows put out in front: of a values node,
-- of a node over a source, of a join.
abbrev pub ValuesFit : ℕ → (ℕ → Held) → (ℕ → Held) → Lists → Type 0
ValuesFit count old new put = (given : Lists) → ValuesGive count new given → ValuesGive count old (ahead put given)

-- of a node over a source: whole lists, begun lists, and faults
pub record NodeFits (before after : ℕ) (own : Own) (old new : ℕ → Held) (taken put : Lists) : Type 0 where
  pub whole : (more given : Lists) → NodeGives before after own new more given
      → NodeGives before after own old (ahead taken more) (ahead put given)
  pub begun : (more given : Lists) → NodeBegins before after own new more given
      → NodeBegins before after own old (ahead taken more) (ahead put given)
  pub faults : (driver : ℕ) → driver < before → (more : List Row) (row : Row) (code : Fault)
      → Meets own (new driver) more row code → Meets own (old driver) (taken driver ++ more) row code

-- of a join, for its joined rows and for what left rows give
pub record JoinFits (drivers : ℕ) (old new : Holding) (m : Passed) (id : ℕ) (kind : JoinKind) (left_keys right_keys : List ℕ) (left right : Tree) : Type 0 where
  pub whole : (l r given : Lists)
      → JoinGives (joined kind (joined_on left_keys right_keys left right)) (drivers_of drivers right) (new.join id) l r given
      → JoinGives (joined kind (joined_on left_keys right_keys left right)) (drivers_of drivers right) (old.join id) (ahead (m.taken (id_of left)) l) (ahead (m.taken (id_of right)) r) (ahead (m.put id) given)
  pub begun : (l r given : Lists)
      → JoinBegins (probed kind (joined_on left_keys right_keys left right)) (drivers_of drivers right) (new.join id) l r given
      → JoinBegins (probed kind (joined_on left_keys right_keys left right)) (drivers_of drivers right) (old.join id) (ahead (m.taken (id_of left)) l) (ahead (m.taken (id_of right)) r) (ahead (m.put id) given)

-- of one node
abbrev pub FitsHere : ℕ → Holding → Holding → Passed → Tree → Type 0
FitsHere drivers old new m (values id kinds all parallel) =
    ValuesFit (drivers_of drivers (values id kinds all parallel)) (old.held id) (new.held id) (m.put id)
FitsHere drivers old new m (over id own source) =
    NodeFits (drivers_of drivers source) (drivers_of drivers (over id own source)) own (old.held id) (new.held id) (m.taken (id_of source)) (m.put id)
FitsHere drivers old new m (join id kind left_keys right_keys left right) =
    JoinFits drivers old new m id kind left_keys right_keys left right

-- of a node and all below it
abbrev pub Fits : ℕ → Holding → Holding → Passed → Tree → Type 0
Fits drivers old new m (values id kinds all parallel) = FitsHere drivers old new m (values id kinds all parallel)
Fits drivers old new m (over id own source) = Fits drivers old new m source
    × FitsHere drivers old new m (over id own source)
Fits drivers old new m (join id kind left_keys right_keys left right) =
    Fits drivers old new m left × Fits drivers old new m right
    × FitsHere drivers old new m (join id kind left_keys right_keys left right)

-- a move of the whole query: what is taken out of the last hand comes out
pub record Moved (drivers : ℕ) (t : Tree) (m : Passed) (old new : Holding) : Type 0 where
  pub hands : HandsPass m old new
  pub fits : Fits drivers old new m t
  pub out : new.out ≡ old.out ++ m.taken (id_of t) 0

-- ---- where a move is

-- a node with this number, and one below the first
abbrev pub has_node : ℕ → Tree → Bool
has_node k (values id kinds all parallel) = nat_eq id k
has_node k (over id own source) = nat_eq id k || has_node k source
has_node k (join id kind left_keys right_keys left right) = nat_eq id k || (has_node k left || has_node k right)

-- a node with this number below the first
abbrev pub has_below : ℕ → Tree → Bool
has_below k (values id kinds all parallel) = false
has_below k (over id own source) = has_node k source
has_below k (join id kind left_keys right_keys left right) = has_node k left || has_node k right

-- a source of the first node has this number
abbrev pub is_source : ℕ → Tree → Bool
is_source k (values id kinds all parallel) = false
is_source k (over id own source) = nat_eq (id_of source) k
is_source k (join id kind left_keys right_keys left right) = nat_eq (id_of left) k || nat_eq (id_of right) k

-- no number stands twice
abbrev pub AreOnce : Tree → Type 0
AreOnce (values id kinds all parallel) = ⊤
AreOnce (over id own source) = (has_node id source ≡ false) × AreOnce source
AreOnce (join id kind left_keys right_keys left right) =
    (has_node id left ≡ false) × (has_node id right ≡ false)
    × ((k : ℕ) → has_node k left ≡ true → has_node k right ≡ false) × AreOnce left × AreOnce right

-- a part of a plan: the plan itself or a part of a source
abbrev pub Within : Tree → Tree → Type 0
Within part (values id kinds all parallel) = part ≡ values id kinds all parallel
Within part (over id own source) = (part ≡ over id own source) ⊎ Within part source
Within part (join id kind left_keys right_keys left right) = (part ≡ join id kind left_keys right_keys left right)
    ⊎ (Within part left ⊎ Within part right)

-- Nothing changes but at the first node of this part, which alone gives rows, and alone takes rows, out of the hands
-- behind its sources.
pub record OnlyAt (part : Tree) (m : Passed) (old new : Holding) : Type 0 where
  pub held : (id : ℕ) → id ≢ id_of part → new.held id ≡ old.held id
  pub join : (id : ℕ) → id ≢ id_of part → new.join id ≡ old.join id
  pub put : (id : ℕ) → id ≢ id_of part → m.put id ≡ nothing
  pub taken : (id : ℕ) → is_source id part ≡ false → m.taken id ≡ nothing

-- the part of a plan whose first node has this number
abbrev pub part_at : ℕ → Tree → Option Tree
part_at k (values id kinds all parallel) = if nat_eq id k then Some (values id kinds all parallel) else None
part_at k (over id own source) = if nat_eq id k then Some (over id own source) else part_at k source
part_at k (join id kind left_keys right_keys left right) =
    if nat_eq id k then Some (join id kind left_keys right_keys left right) else if has_node k left then part_at k left else part_at k right
