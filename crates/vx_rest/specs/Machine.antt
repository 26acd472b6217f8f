-- All that decides what a query does next, its moves, and what each of them needs.
use Rattle.std.specs.Prelude.{◌≡◌, ◌≢◌, ℕ, ◌<◌, ◌≤◌, Bool, true, false, List, [], ⊤}
use Rattle.vx_value.specs.declared.value.Kind.{Kind}
use Rattle.vx_value.specs.declared.value.Value.{Value}
use Rattle.vx_plan.specs.declared.node.JoinKind.{JoinKind}
use Rattle.vx_plan.specs.Tree.{Tree, values, over, join, Own, aggregation, order, topn, exchange, id_of}
use Rattle.vx_meaning.specs.Joins.{On}
use Rattle.vx_meaning.specs.Answer.{joined_on}
use Rattle.vx_rest.specs.Lists.{nothing, drivers_of}
use Rattle.vx_rest.specs.Held.{Held, Holding}
use Rattle.vx_rest.specs.Fits.{Within}
use Rattle.vx_rest.specs.Ends.{Ends, AllEnd, IsDrained}

-- What operators and hands hold; which ends were passed on. A driver has ended where its end was passed on to the exchange
-- or the build at which its pipeline stops, and the output's driver where `done` says so.
pub record Machine : Type 0 where
  pub query : Holding
  pub ends : Ends
  -- of a join: its last table was emptied
  pub through : ℕ → Bool
  -- by exchange and queue: the queue takes no more until rows have left it
  pub full : ℕ → ℕ → Bool
  -- by node and driver: runs that stand, and rows in memory that can be reclaimed
  pub runs : ℕ → ℕ → ℕ
  pub kept : ℕ → ℕ → ℕ
  -- of a join: build rows without a match can be given; what its rows weigh, by the levels of their tables; and how many steps of
  -- reading parts back are left
  pub leaving : ℕ → Bool
  pub weight : ℕ → ℕ
  pub inside : ℕ → ℕ
  pub done : Bool

-- where a join stands
pub record JoinNode : Type 0 where
  pub id : ℕ
  pub kind : JoinKind
  pub left_keys : List ℕ
  pub right_keys : List ℕ
  pub left : Tree
  pub right : Tree

-- the plan whose root it is
abbrev pub join_node : JoinNode → Tree
join_node j = join j.id j.kind j.left_keys j.right_keys j.left j.right

-- by what it joins
abbrev pub on_of : JoinNode → On
on_of j = joined_on j.left_keys j.right_keys j.left j.right

-- A move, by the node that makes it and its driver.
pub data Move : Type 0 where
  -- a hand is filled: by a values node; by an operator or a queue; by a probe; by the build rows without a match
  reads : ℕ → List Kind → List (List Value) → Bool → ℕ → Move
  gives : ℕ → Own → Tree → ℕ → Move
  answers : JoinNode → Move
  leaves : JoinNode → Move
  -- a hand is put into what stands behind it: an operator or an exchange; a build; a probe; the output
  takes : ℕ → Own → Tree → ℕ → Move
  builds : JoinNode → ℕ → Move
  probes : JoinNode → Move
  comes_out : Move
  -- a join goes on inside itself: it begins a part, brings its rows back, takes them in, or answers them
  turns : JoinNode → Move
  -- eight runs become one
  merges : ℕ → Own → Tree → ℕ → Move
  -- an end is passed on: to an operator or an exchange; to a build; to a probe; a join's last table is emptied; the output
  finishes : ℕ → Own → Tree → ℕ → Move
  built : JoinNode → ℕ → Move
  probed : JoinNode → Move
  empties : JoinNode → Move
  stops : Move

-- ---- what a move needs

-- operators that keep rows
abbrev pub KeepsRows : Own → Type 0
KeepsRows (aggregation step keys aggregates) = ⊤
KeepsRows (order keys) = ⊤
KeepsRows (topn count keys) = ⊤
KeepsRows own = ⊥

-- a driver gets nothing more from a node, and the node knows it
abbrev pub IsOver : Machine → Tree → Type 0
IsOver m (join id kind left_keys right_keys left right) = m.through id ≡ true
IsOver m _ = ⊤

-- nothing more comes from a source for this driver
abbrev pub HasEnded : ℕ → Machine → Tree → ℕ → Type 0
HasEnded drivers m source driver = IsDrained drivers m.ends m.query source driver × IsOver m source

-- an operator has something to give
abbrev pub CanGive : Own → Held → Type 0
CanGive (aggregation step keys aggregates) held = (held.ended ≡ true) × (held.groups ≢ [])
CanGive (order keys) held = (held.ended ≡ true) × (held.rows ≢ [])
CanGive (topn count keys) held = (held.ended ≡ true) × (held.rows ≢ []) × (held.left ≢ 0)
CanGive own held = held.rows ≢ []

-- An operator that keeps rows has room for a run; an exchange for more rows; any other takes a batch only after it has
-- given the one before.
abbrev pub CanTake : Machine → ℕ → ℕ → Own → ℕ → Type 0
CanTake m queues id (aggregation step keys aggregates) driver = m.runs id driver < 8
CanTake m queues id (order keys) driver = m.runs id driver < 8
CanTake m queues id (topn count keys) driver = m.runs id driver < 8
CanTake m queues id (exchange kind keys) driver = (queue : ℕ) → queue < queues → m.full id queue ≡ false
CanTake m queues id own driver = (m.query.held id driver).rows ≡ []

-- all drivers of the build's source have ended
abbrev pub IsBuilt : ℕ → Machine → JoinNode → Type 0
IsBuilt drivers m j = AllEnd (drivers_of drivers j.right) (m.ends.build j.id)

-- what a move needs, by its kind
abbrev pub Needs : ℕ → Tree → Machine → Move → Type 0
Needs drivers t m (reads id kinds all parallel driver) =
    Within (values id kinds all parallel) t × (driver < drivers_of drivers (values id kinds all parallel))
    × (m.query.hand id driver ≡ []) × ((m.query.held id driver).rows ≢ [])
Needs drivers t m (gives id own source driver) = Within (over id own source) t
    × (driver < drivers_of drivers (over id own source)) × (m.query.hand id driver ≡ [])
    × CanGive own (m.query.held id driver)
Needs drivers t m (answers j) = Within (join_node j) t × IsBuilt drivers m j × (m.query.hand j.id 0 ≡ [])
    × ((m.query.join j.id).owed ≢ [])
Needs drivers t m (leaves j) = Within (join_node j) t × IsBuilt drivers m j × (m.query.hand j.id 0 ≡ [])
    × (m.ends.input j.id 0 ≡ true) × ((m.query.join j.id).owed ≡ []) × (m.leaving j.id ≡ true)
Needs drivers t m (takes id own source driver) = Within (over id own source) t × (driver < drivers_of drivers source)
    × (m.query.hand (id_of source) driver ≢ []) × CanTake m (drivers_of drivers (over id own source)) id own driver
Needs drivers t m (builds j driver) = Within (join_node j) t × (driver < drivers_of drivers j.right)
    × (m.query.hand (id_of j.right) driver ≢ [])
Needs drivers t m (probes j) = Within (join_node j) t × IsBuilt drivers m j × (m.query.hand (id_of j.left) 0 ≢ [])
    × ((m.query.join j.id).owed ≡ [])
Needs drivers t m comes_out = m.query.hand (id_of t) 0 ≢ []
Needs drivers t m (merges id own source driver) = Within (over id own source) t × (driver < drivers_of drivers source)
    × (8 ≤ m.runs id driver) × (m.ends.input id driver ≡ false) × KeepsRows own
Needs drivers t m (finishes id own source driver) = Within (over id own source) t
    × (driver < drivers_of drivers source) × (m.ends.input id driver ≡ false) × HasEnded drivers m source driver
Needs drivers t m (built j driver) = Within (join_node j) t × (driver < drivers_of drivers j.right)
    × (m.ends.build j.id driver ≡ false) × HasEnded drivers m j.right driver
Needs drivers t m (probed j) = Within (join_node j) t × IsBuilt drivers m j × (m.ends.input j.id 0 ≡ false)
    × HasEnded drivers m j.left 0
Needs drivers t m (empties j) = Within (join_node j) t × IsBuilt drivers m j × (m.ends.input j.id 0 ≡ true)
    × ((m.query.join j.id).owed ≡ []) × (m.leaving j.id ≡ false) × (m.through j.id ≡ false) × (m.inside j.id ≡ 0)
Needs drivers t m (turns j) = Within (join_node j) t × IsBuilt drivers m j × (m.ends.input j.id 0 ≡ true)
    × ((m.query.join j.id).owed ≡ []) × (m.leaving j.id ≡ false) × (m.through j.id ≡ false) × (m.inside j.id ≢ 0)
Needs drivers t m stops = HasEnded drivers m t 0

-- a move that can be made
pub record CanMake (drivers : ℕ) (t : Tree) (m : Machine) (move : Move) : Type 0 where
  pub going : m.done ≡ false
  pub needs : Needs drivers t m move
