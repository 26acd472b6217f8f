-- How many rows may still be taken from a node, by what a query holds, and sums of rows that operators have taken in.
use Rattle.std.specs.Prelude.{◌≡◌, ⊤, ℕ, true, ◌<◌, ◌^◌, ◌+◌, ◌*◌, ◌≤◌, ◌&&◌, nat_eq, if◌then◌else◌, length, Ok}
use Rattle.vx_plan.specs.Ids.{check_ids}
use Rattle.vx_plan.specs.Widths.{check_widths}
use Rattle.vx_plan.specs.declared.node.JoinKind.{JoinKind}
use Rattle.vx_plan.specs.declared.node.JoinKind.TheVariants.{Semi, Anti}
use Rattle.vx_plan.specs.Tree.{Tree, values, over, join, Own, aggregation, exchange, id_of}
use Rattle.vx_plan.specs.Limits.{growth, keeps}
use Rattle.vx_plan.specs.declared.refusal.LimitName.TheVariants.{Growth}
use Rattle.vx_rest.specs.Lists.{Lists, drivers_of}
use Rattle.vx_rest.specs.Held.{Held, HeldJoin, Holding}
use Rattle.vx_rest.specs.Fits.{Passed, Within}
use Rattle.vx_rest.specs.HandMoves.{taking, putting, standing}
use Rattle.vx_rest.specs.Counts.{join_most}
use Rattle.vx_rest.specs.MachineRank.{total}
use Rattle.vx_rest.specs.Machine.{Machine, JoinNode, join_node, Move, reads, gives, answers, leaves, takes, builds, probes, comes_out, turns, merges, finishes, built, probed, empties, stops}
use Rattle.vx_rest.specs.Changes.{Makes}
use Rattle.vx_rest.specs.Reclaims.{Reclaims, ReclaimsJoin}
use Rattle.vx_rest.specs.Run.{StartsNew}

-- ---- the most rows that a node may still give

-- the rows that one driver's operator holds; of an aggregation its group rows
abbrev pub weigh : Own → Held → ℕ
weigh (aggregation step keys aggregates) held = length held.groups
weigh own held = length held.rows

-- the rows of lists, over all drivers of the pipeline in which a node's rows come out
abbrev pub rows_in : ℕ → Tree → Lists → ℕ
rows_in drivers t lists = total (drivers_of drivers t) (λ d. length (lists d))

-- the most rows that may still be taken from a node, by what the query holds
abbrev pub most_of : ℕ → Holding → Tree → ℕ
most_of drivers q (values id kinds all parallel) =
    rows_in drivers (values id kinds all parallel) (q.hand id) + total (drivers_of drivers (values id kinds all parallel)) (λ d. length (q.held id d).rows)
most_of drivers q (over id own source) =
    rows_in drivers (over id own source) (q.hand id) + (total (drivers_of drivers (over id own source)) (λ d. weigh own (q.held id d)) + most_of drivers q source)
most_of drivers q (join id kind left_keys right_keys left right) =
    rows_in drivers (join id kind left_keys right_keys left right) (q.hand id)
    + join_most kind (length (q.join id).owed) (length (q.join id).deferred + most_of drivers q left) (length (q.join id).build + most_of drivers q right)

-- ---- what a move tells of numbers, beside what it changes

-- how many rows a probe row gives at most, and how many build rows without a match
abbrev pub allowed : JoinKind → ℕ → ℕ
allowed Semi b = 1
allowed Anti b = 1
allowed _ b = b + 1

-- how many rows so many build rows without a match give at most
abbrev pub alone_most : JoinKind → ℕ → ℕ
alone_most Semi n = 0
alone_most Anti n = 0
alone_most _ n = n

-- Of a join, by the rows taken in on its left, on its right, and put out: so many probe rows were answered by so many
-- rows, and so many build rows left and gave so many.
pub record JoinTells (kind : JoinKind) (old new : HeldJoin) (taken_left taken_right put : ℕ) : Type 0 where
  pub answered : ℕ
  pub given : ℕ
  pub gone : ℕ
  pub alone : ℕ
  pub owed : length new.owed + put ≤ length old.owed + (given + alone)
  pub deferred : length new.deferred + answered ≤ length old.deferred + taken_left
  pub build : length new.build + gone ≤ length old.build + taken_right
  pub few : given ≤ answered * allowed kind (length new.build)
  pub less : alone ≤ alone_most kind gone

-- what an exchange takes its clause tells
abbrev pub TakesTell : Own → Held → Held → ℕ → Type 0
TakesTell (exchange kind keys) old new taken = ⊤
TakesTell own old new taken = weigh own new ≤ weigh own old + taken

-- a join's move that takes no rows and gives none
abbrev pub JoinStill : JoinNode → Machine → Machine → Type 0
JoinStill j old new = JoinTells j.kind (old.query.join j.id) (new.query.join j.id) 0 0 0

-- what each move tells
abbrev pub Tells : Move → Machine → Machine → Type 0
Tells (reads id kinds all parallel d) old new = ⊤
Tells (gives id own source d) old new =
    weigh own (new.query.held id d) + length (new.query.hand id d) ≤ weigh own (old.query.held id d)
Tells (takes id own source d) old new =
    TakesTell own (old.query.held id d) (new.query.held id d) (length (old.query.hand (id_of source) d))
Tells (merges id own source d) old new = weigh own (new.query.held id d) ≤ weigh own (old.query.held id d)
Tells (finishes id own source d) old new = weigh own (new.query.held id d) ≤ weigh own (old.query.held id d)
Tells (answers j) old new =
    JoinTells j.kind (old.query.join j.id) (new.query.join j.id) 0 0 (length (new.query.hand j.id 0))
Tells (leaves j) old new =
    JoinTells j.kind (old.query.join j.id) (new.query.join j.id) 0 0 (length (new.query.hand j.id 0))
Tells (builds j d) old new =
    JoinTells j.kind (old.query.join j.id) (new.query.join j.id) 0 (length (old.query.hand (id_of j.right) d)) 0
Tells (probes j) old new =
    JoinTells j.kind (old.query.join j.id) (new.query.join j.id) (length (old.query.hand (id_of j.left) 0)) 0 0
Tells comes_out old new = ⊤
Tells (turns j) old new = JoinStill j old new
Tells (built j d) old new = JoinStill j old new
Tells (probed j) old new = JoinStill j old new
Tells (empties j) old new = JoinStill j old new
Tells stops old new = ⊤

-- the rows that a move takes out of a hand, and that it puts into one
abbrev pub passed : Tree → Move → Machine → Machine → Passed
passed t (reads id kinds all parallel d) old new = putting id d (new.query.hand id d)
passed t (gives id own source d) old new = putting id d (new.query.hand id d)
passed t (answers j) old new = putting j.id 0 (new.query.hand j.id 0)
passed t (leaves j) old new = putting j.id 0 (new.query.hand j.id 0)
passed t (takes id own source d) old new = taking (id_of source) d (old.query.hand (id_of source) d)
passed t (builds j d) old new = taking (id_of j.right) d (old.query.hand (id_of j.right) d)
passed t (probes j) old new = taking (id_of j.left) 0 (old.query.hand (id_of j.left) 0)
passed t comes_out old new = taking (id_of t) 0 (old.query.hand (id_of t) 0)
passed t move old new = standing

-- ---- counters of the operators

-- what operators count
pub record Counters : Type 0 where
  -- by node and driver: the rows that an operator has taken in since the start, and since its regions were last empty
  pub took : ℕ → ℕ → ℕ
  pub since : ℕ → ℕ → ℕ
  -- of a join: the build rows that have left since the build's regions were last empty
  pub left : ℕ → ℕ

-- the rows that a move takes into an operator
abbrev pub taken_in : Move → Machine → ℕ → ℕ → ℕ
taken_in (takes id own source d) old node driver =
    if nat_eq node id && nat_eq driver d then length (old.query.hand (id_of source) d) else 0
taken_in move old node driver = 0

-- the rows that a move takes into a build
abbrev pub built_in : Move → Machine → ℕ → ℕ
built_in (builds j d) old node = if nat_eq node j.id then length (old.query.hand (id_of j.right) d) else 0
built_in move old node = 0

-- `since` and `left` may also fall, to 0 where the regions become empty
pub record Ticks (move : Move) (old new : Machine) (before after : Counters) : Type 0 where
  pub took : (id d : ℕ) → after.took id d ≡ before.took id d + taken_in move old id d
  pub since : (id d : ℕ) → after.since id d ≤ before.since id d + taken_in move old id d
  pub left : (id : ℕ)
      → after.left id + length (new.query.join id).build ≤ before.left id + (length (old.query.join id).build + built_in move old id)

-- ---- the sums

-- of a node over a source
abbrev pub Sum : ℕ → Holding → (ℕ → ℕ → ℕ) → Tree → Type 0
Sum drivers q taken (over id own source) =
    total (drivers_of drivers source) (taken id) + most_of drivers q source ≤ growth source
Sum drivers q taken _ = ⊤

-- of a join
abbrev pub JoinSum : ℕ → Holding → (ℕ → ℕ) → Tree → Type 0
JoinSum drivers q gone (join id kind left_keys right_keys left right) =
    gone id + (length (q.join id).build + most_of drivers q right) ≤ growth right
JoinSum drivers q gone _ = ⊤

-- of each node with one source, and of each join
pub record HasSums (drivers : ℕ) (t : Tree) (q : Holding) (c : Counters) : Type 0 where
  pub first : (part : Tree) → Within part t → Sum drivers q c.took part
  pub second : (part : Tree) → Within part t → Sum drivers q c.since part
  pub third : (part : Tree) → Within part t → JoinSum drivers q c.left part

-- ---- a run with counters

-- nothing was taken in yet
pub record StartsCounted (c : Counters) : Type 0 where
  pub took : (id d : ℕ) → c.took id d ≡ 0
  pub since : (id d : ℕ) → c.since id d ≡ 0
  pub left : (id : ℕ) → c.left id ≡ 0

-- a reclaim's numbers
pub record ReclaimTells (old new : Machine) (before after : Counters) : Type 0 where
  pub took : (id d : ℕ) → after.took id d ≡ before.took id d
  pub since : (id d : ℕ) → after.since id d ≤ before.since id d
  pub left : (id : ℕ)
      → after.left id + length (new.query.join id).build ≤ before.left id + length (old.query.join id).build

-- a machine to which moves and reclaims have led, with its counters
pub data IsCounted (drivers : ℕ) (t : Tree) : Machine → Counters → Type 0 where
  started : (m : Machine) (c : Counters) → StartsNew drivers t m → StartsCounted c → IsCounted drivers t m c
  moved : (move : Move) (old new : Machine) (before after : Counters) → Makes drivers t move old new
      → Tells move old new → Ticks move old new before after → IsCounted drivers t old before
      → IsCounted drivers t new after
  reclaimed : (id : ℕ) (own : Own) (source : Tree) (d : ℕ) (old new : Machine) (before after : Counters)
      → Reclaims drivers t id own source d old new → weigh own (new.query.held id d) ≤ weigh own (old.query.held id d)
      → ReclaimTells old new before after
      → IsCounted drivers t old before → IsCounted drivers t new after
  cut : (j : JoinNode) (old new : Machine) (before after : Counters) → ReclaimsJoin drivers t j old new
      → JoinStill j old new → ReclaimTells old new before after → IsCounted drivers t old before
      → IsCounted drivers t new after

-- ---- the laws

-- no move raises the most rows that any node may still give, and rows that it takes out of the hand behind one lower them
abbrev pub MovesLowerTheMost : Type 0
MovesLowerTheMost =
    (drivers : ℕ) → 1 ≤ drivers → (t : Tree) → check_ids t ≡ Ok tt → check_widths t ≡ Ok tt
    → (move : Move) (old new : Machine) → Makes drivers t move old new → Tells move old new
    → (s : Tree) → Within s t
    → most_of drivers new.query s + rows_in drivers s ((passed t move old new).taken (id_of s)) ≤ most_of drivers old.query s

-- the sums hold in every run, through reclaims too
abbrev pub RunsKeepSums : Type 0
RunsKeepSums = (drivers : ℕ) → 1 ≤ drivers → drivers ≤ 8 → (t : Tree) → check_ids t ≡ Ok tt → check_widths t ≡ Ok tt
    → (m : Machine) (c : Counters) → IsCounted drivers t m c → HasSums drivers t m.query c

-- a batch in the hand before an operator fits what the sums leave, and its rows with all that were taken in are at most 2^62
abbrev pub SumsLeaveRoom : Type 0
SumsLeaveRoom =
    (drivers : ℕ) (t : Tree) (q : Holding) (c : Counters) → HasSums drivers t q c → keeps Growth t ≡ true
    → (id : ℕ) (own : Own) (source : Tree) → Within (over id own source) t → (d : ℕ) → d < drivers_of drivers source
    → (c.took id d + length (q.hand (id_of source) d) ≤ 2 ^ 62)
    × (c.since id d + length (q.hand (id_of source) d) ≤ growth source)

-- and of a build, of whose rows so many stand in memory and so many are on the way back
abbrev pub BuildsHaveRoom : Type 0
BuildsHaveRoom =
    (drivers : ℕ) (t : Tree) (q : Holding) (c : Counters) → HasSums drivers t q c → (j : JoinNode)
    → Within (join_node j) t → (memory back : ℕ) → memory + back ≤ length (q.join j.id).build
    → ((d : ℕ) → d < drivers_of drivers j.right → (memory + c.left j.id) + length (q.hand (id_of j.right) d) ≤ growth j.right) × ((memory + c.left j.id) + back ≤ growth j.right)
