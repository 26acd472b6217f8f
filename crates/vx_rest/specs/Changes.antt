-- What each move changes. What it doesn't name stays.
use Rattle.std.specs.Prelude.{◌≡◌, ◌≢◌, ◌⊎◌, ℕ, ◌<◌, ◌≤◌, ◌+◌, Bool, true, List, [], ◌∷◌, ◌++◌, length, ⊤}
use Rattle.vx_value.specs.Row.{Row}
use Rattle.vx_plan.specs.Tree.{Tree, over, join, Own, aggregation, order, topn, exchange, id_of}
use Rattle.vx_rest.specs.Lists.{nothing, only_at, drivers_of}
use Rattle.vx_rest.specs.Held.{Held}
use Rattle.vx_rest.specs.Calls.{AllKeep, JoinCall}
use Rattle.vx_rest.specs.HandMoves.{HandEmptied, HandFilled, HandsStay, StaysBut, ComesOut}
use Rattle.vx_rest.specs.Through.{IsJoinThrough}
use Rattle.vx_rest.specs.Machine.{Machine, JoinNode, on_of, Move, reads, gives, answers, leaves, takes, builds, probes, comes_out, turns, merges, finishes, built, probed, empties, stops, CanMake}

-- what stands at the other nodes stays, and so do the ends
pub record EndsStay (old new : Machine) : Type 0 where
  pub ends : new.ends ≡ old.ends
  pub through : new.through ≡ old.through
  pub done : new.done ≡ old.done

-- the memory of all other nodes stays
pub record MemoryStays (node : ℕ) (old new : Machine) : Type 0 where
  pub full : (id : ℕ) → id ≢ node → new.full id ≡ old.full id
  pub runs : (id : ℕ) → id ≢ node → new.runs id ≡ old.runs id
  pub kept : (id : ℕ) → id ≢ node → new.kept id ≡ old.kept id
  pub leaving : (id : ℕ) → id ≢ node → new.leaving id ≡ old.leaving id
  pub weight : (id : ℕ) → id ≢ node → new.weight id ≡ old.weight id
  pub inside : (id : ℕ) → id ≢ node → new.inside id ≡ old.inside id

-- the other drivers of a node stay, but its queues take from any
abbrev pub OthersStay : ℕ → (ℕ → Held) → (ℕ → Held) → Type 0
OthersStay place old new = (driver : ℕ) → driver ≢ place → new driver ≡ old driver

-- of a node that takes a batch: its other operators stay, of an exchange their ends
abbrev pub TakersStay : Own → ℕ → (ℕ → Held) → (ℕ → Held) → Type 0
TakersStay (exchange kind keys) place old new = (driver : ℕ) → (new driver).ended ≡ (old driver).ended
TakersStay own place old new = OthersStay place old new × ((new place).ended ≡ (old place).ended)

-- a full queue has rows
abbrev pub FullHaveRows : Machine → ℕ → Type 0
FullHaveRows m id = (queue : ℕ) → m.full id queue ≡ true → (m.query.held id queue).rows ≢ []

-- of a node that isn't a join
pub record PartsStay (id : ℕ) (old new : Machine) : Type 0 where
  pub weight : new.weight id ≡ old.weight id
  pub inside : new.inside id ≡ old.inside id

-- how many rows an operator keeps
abbrev pub size : Held → ℕ
size held = length held.rows + length held.groups

-- a node with one source: its hand, operator and memory alone
pub record Here (node : ℕ) (old new : Machine) : Type 0 where
  pub stays : StaysBut node old.query new.query
  pub memory : MemoryStays node old new
  pub full : FullHaveRows new node

-- a values node fills its hand
pub record ReadChanges (id driver : ℕ) (old new : Machine) : Type 0 where
  pub rows : List Row
  pub some : rows ≢ []
  pub hand : HandFilled id driver rows old.query new.query
  pub here : Here id old new
  pub ends : EndsStay old new
  pub others : OthersStay driver (old.query.held id) (new.query.held id)
  pub joins : new.query.join id ≡ old.query.join id
  pub parts : PartsStay id old new
  pub is : (old.query.held id driver).rows ≡ rows ++ (new.query.held id driver).rows
  pub fewer : size (new.query.held id driver) < size (old.query.held id driver)

-- an operator or a queue fills its hand
pub record GiveChanges (drivers id : ℕ) (own : Own) (source : Tree) (driver : ℕ) (old new : Machine) : Type 0 where
  pub rows : List Row
  pub some : rows ≢ []
  pub hand : HandFilled id driver rows old.query new.query
  pub here : Here id old new
  pub ends : EndsStay old new
  pub others : OthersStay driver (old.query.held id) (new.query.held id)
  pub ended : (new.query.held id driver).ended ≡ (old.query.held id driver).ended
  pub joins : new.query.join id ≡ old.query.join id
  pub parts : PartsStay id old new
  pub keeps : AllKeep (drivers_of drivers source) (drivers_of drivers (over id own source)) own (old.query.held id) (new.query.held id) nothing (only_at driver rows)
  pub fewer : size (new.query.held id driver) < size (old.query.held id driver)

-- an operator or an exchange takes the hand before it
pub record TakeChanges (drivers id : ℕ) (own : Own) (source : Tree) (driver : ℕ) (old new : Machine) : Type 0 where
  pub row : Row
  pub rows : List Row
  pub hand : HandEmptied (id_of source) driver (row ∷ rows) old.query new.query
  pub here : Here id old new
  pub ends : EndsStay old new
  pub others : TakersStay own driver (old.query.held id) (new.query.held id)
  pub joins : new.query.join id ≡ old.query.join id
  pub parts : PartsStay id old new
  pub keeps : AllKeep (drivers_of drivers source) (drivers_of drivers (over id own source)) own (old.query.held id) (new.query.held id) (only_at driver (row ∷ rows)) nothing

-- the memory of the other drivers stays
pub record OtherMemory (node place : ℕ) (old new : Machine) : Type 0 where
  pub kept : (driver : ℕ) → driver ≢ place → new.kept node driver ≡ old.kept node driver
  pub runs : (driver : ℕ) → driver ≢ place → new.runs node driver ≡ old.runs node driver

-- eight runs of an operator become one
pub record MergeChanges (drivers id : ℕ) (own : Own) (source : Tree) (driver : ℕ) (old new : Machine) : Type 0 where
  pub hands : HandsStay old.query new.query
  pub here : Here id old new
  pub ends : EndsStay old new
  pub others : OthersStay driver (old.query.held id) (new.query.held id)
  pub ended : (new.query.held id driver).ended ≡ (old.query.held id driver).ended
  pub some : (new.query.held id driver).rows ≢ [] → (old.query.held id driver).rows ≢ []
  pub joins : new.query.join id ≡ old.query.join id
  pub parts : PartsStay id old new
  pub keeps : AllKeep (drivers_of drivers source) (drivers_of drivers (over id own source)) own (old.query.held id) (new.query.held id) nothing nothing
  pub memory : OtherMemory id driver old new
  pub size : size (new.query.held id driver) ≤ size (old.query.held id driver)
  pub kept : new.kept id driver ≤ old.kept id driver
  pub runs : new.runs id driver < old.runs id driver

-- one flag is set
pub record IsSet (node place : ℕ) (old new : ℕ → ℕ → Bool) : Type 0 where
  pub after : new node place ≡ true
  pub others : (id driver : ℕ) → (id ≢ node) ⊎ (driver ≢ place) → new id driver ≡ old id driver

-- an operator that waits for its end knows it
abbrev pub KnowsEnd : Own → Held → Type 0
KnowsEnd (aggregation step keys aggregates) held = held.ended ≡ true
KnowsEnd (order keys) held = held.ended ≡ true
KnowsEnd (topn count keys) held = held.ended ≡ true
KnowsEnd own held = ⊤

-- an operator's input ends
pub record FinishChanges (drivers id : ℕ) (own : Own) (source : Tree) (driver : ℕ) (old new : Machine) : Type 0 where
  pub hands : HandsStay old.query new.query
  pub here : Here id old new
  pub input : IsSet id driver old.ends.input new.ends.input
  pub build : new.ends.build ≡ old.ends.build
  pub through : new.through ≡ old.through
  pub done : new.done ≡ old.done
  pub others : OthersStay driver (old.query.held id) (new.query.held id)
  pub knows : KnowsEnd own (new.query.held id driver)
  pub joins : new.query.join id ≡ old.query.join id
  pub parts : PartsStay id old new
  pub keeps : AllKeep (drivers_of drivers source) (drivers_of drivers (over id own source)) own (old.query.held id) (new.query.held id) nothing nothing
  pub memory : OtherMemory id driver old new
  pub size : size (new.query.held id driver) ≤ size (old.query.held id driver)
  -- what is in memory may become a run
  pub runs : (new.kept id driver < old.kept id driver)
      ⊎ ((new.kept id driver ≤ old.kept id driver) × (new.runs id driver ≤ old.runs id driver))

-- a join: its hand and its memory alone
pub record HereJoin (j : JoinNode) (old new : Machine) : Type 0 where
  pub here : Here j.id old new
  pub held : new.query.held j.id ≡ old.query.held j.id
  pub leaving : new.leaving j.id ≡ true → (new.query.join j.id).build ≢ []

-- a join fills its hand with rows owed, or with build rows without a match
pub record AnswerChanges (j : JoinNode) (old new : Machine) : Type 0 where
  pub rows : List Row
  pub some : rows ≢ []
  pub hand : HandFilled j.id 0 rows old.query new.query
  pub here : HereJoin j old new
  pub ends : EndsStay old new
  pub ended : (new.query.join j.id).ended ≡ (old.query.join j.id).ended
  pub call : JoinCall j.kind (on_of j) (old.query.join j.id) (new.query.join j.id) [] [] rows
  pub fewer : (new.weight j.id < old.weight j.id)
      ⊎ ((new.weight j.id ≤ old.weight j.id) × (length (new.query.join j.id).owed < length (old.query.join j.id).owed))

-- a build takes the hand before it
pub record BuildChanges (j : JoinNode) (driver : ℕ) (old new : Machine) : Type 0 where
  pub row : Row
  pub rows : List Row
  pub hand : HandEmptied (id_of j.right) driver (row ∷ rows) old.query new.query
  pub here : HereJoin j old new
  pub ends : EndsStay old new
  pub ended : (new.query.join j.id).ended ≡ (old.query.join j.id).ended
  pub owed : (new.query.join j.id).owed ≡ (old.query.join j.id).owed
  pub call : JoinCall j.kind (on_of j) (old.query.join j.id) (new.query.join j.id) [] (row ∷ rows) []

-- a probe takes the hand before it
pub record ProbeChanges (j : JoinNode) (old new : Machine) : Type 0 where
  pub row : Row
  pub rows : List Row
  pub hand : HandEmptied (id_of j.left) 0 (row ∷ rows) old.query new.query
  pub here : HereJoin j old new
  pub ends : EndsStay old new
  pub ended : (new.query.join j.id).ended ≡ (old.query.join j.id).ended
  pub call : JoinCall j.kind (on_of j) (old.query.join j.id) (new.query.join j.id) (row ∷ rows) [] []

-- the build's or the probe's end, and the last table's
pub record JoinStands (j : JoinNode) (old new : Machine) : Type 0 where
  pub hands : HandsStay old.query new.query
  pub here : HereJoin j old new
  pub owed : (new.query.join j.id).owed ≡ (old.query.join j.id).owed
  pub call : JoinCall j.kind (on_of j) (old.query.join j.id) (new.query.join j.id) [] [] []
  pub weight : new.weight j.id ≤ old.weight j.id
  pub inside : new.inside j.id ≤ old.inside j.id
  pub kept : (driver : ℕ) → new.kept j.id driver ≤ old.kept j.id driver
  pub runs : new.runs j.id ≡ old.runs j.id

-- a driver of the build's source has ended
pub record BuiltChanges (j : JoinNode) (driver : ℕ) (old new : Machine) : Type 0 where
  pub stands : JoinStands j old new
  pub ended : (new.query.join j.id).ended ≡ (old.query.join j.id).ended
  pub build : IsSet j.id driver old.ends.build new.ends.build
  pub input : new.ends.input ≡ old.ends.input
  pub through : new.through ≡ old.through
  pub done : new.done ≡ old.done

-- the probe's input has ended
pub record ProbedChanges (j : JoinNode) (old new : Machine) : Type 0 where
  pub stands : JoinStands j old new
  pub input : IsSet j.id 0 old.ends.input new.ends.input
  pub build : new.ends.build ≡ old.ends.build
  pub through : new.through ≡ old.through
  pub done : new.done ≡ old.done

-- the join's last table is emptied
pub record EmptyChanges (j : JoinNode) (old new : Machine) : Type 0 where
  pub stands : JoinStands j old new
  pub ended : (new.query.join j.id).ended ≡ (old.query.join j.id).ended
  pub gone : IsJoinThrough (new.query.join j.id)
  pub ends : new.ends ≡ old.ends
  pub through : new.through j.id ≡ true
  pub others : (id : ℕ) → id ≢ j.id → new.through id ≡ old.through id
  pub done : new.done ≡ old.done

-- a join goes on inside itself
pub record TurnChanges (j : JoinNode) (old new : Machine) : Type 0 where
  pub hands : HandsStay old.query new.query
  pub here : HereJoin j old new
  pub ends : EndsStay old new
  pub ended : (new.query.join j.id).ended ≡ (old.query.join j.id).ended
  pub call : JoinCall j.kind (on_of j) (old.query.join j.id) (new.query.join j.id) [] [] []
  -- rows come out of rows alone
  pub still : IsJoinThrough (old.query.join j.id) → IsJoinThrough (new.query.join j.id)
  pub fewer :
      (new.weight j.id < old.weight j.id)
      ⊎ ((new.weight j.id ≤ old.weight j.id) × (length (new.query.join j.id).owed ≤ length (old.query.join j.id).owed) × ((driver : ℕ) → new.kept j.id driver ≤ old.kept j.id driver) × (new.runs j.id ≡ old.runs j.id) × (new.inside j.id < old.inside j.id))

-- the last hand comes out
pub record OutputChanges (t : Tree) (old new : Machine) : Type 0 where
  pub row : Row
  pub rows : List Row
  pub out : ComesOut (id_of t) (row ∷ rows) old.query new.query
  pub ends : EndsStay old new
  pub full : new.full ≡ old.full
  pub runs : new.runs ≡ old.runs
  pub kept : new.kept ≡ old.kept
  pub leaving : new.leaving ≡ old.leaving
  pub weight : new.weight ≡ old.weight
  pub inside : new.inside ≡ old.inside

-- the output's driver has ended
pub record StopChanges (old new : Machine) : Type 0 where
  pub query : new.query ≡ old.query
  pub ends : new.ends ≡ old.ends
  pub through : new.through ≡ old.through
  pub full : new.full ≡ old.full
  pub runs : new.runs ≡ old.runs
  pub kept : new.kept ≡ old.kept
  pub leaving : new.leaving ≡ old.leaving
  pub weight : new.weight ≡ old.weight
  pub inside : new.inside ≡ old.inside
  pub done : new.done ≡ true

-- what each move changes
abbrev pub Changes : ℕ → Tree → Move → Machine → Machine → Type 0
Changes drivers t (reads id kinds all parallel driver) old new = ReadChanges id driver old new
Changes drivers t (gives id own source driver) old new = GiveChanges drivers id own source driver old new
Changes drivers t (answers j) old new = AnswerChanges j old new
Changes drivers t (leaves j) old new = AnswerChanges j old new
Changes drivers t (takes id own source driver) old new = TakeChanges drivers id own source driver old new
Changes drivers t (builds j driver) old new = BuildChanges j driver old new
Changes drivers t (probes j) old new = ProbeChanges j old new
Changes drivers t comes_out old new = OutputChanges t old new
Changes drivers t (merges id own source driver) old new = MergeChanges drivers id own source driver old new
Changes drivers t (finishes id own source driver) old new = FinishChanges drivers id own source driver old new
Changes drivers t (built j driver) old new = BuiltChanges j driver old new
Changes drivers t (probed j) old new = ProbedChanges j old new
Changes drivers t (empties j) old new = EmptyChanges j old new
Changes drivers t (turns j) old new = TurnChanges j old new
Changes drivers t stops old new = StopChanges old new

-- a query makes this move
pub record Makes (drivers : ℕ) (t : Tree) (move : Move) (old new : Machine) : Type 0 where
  pub can : CanMake drivers t old move
  pub changes : Changes drivers t move old new
