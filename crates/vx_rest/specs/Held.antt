-- What a query holds: for each plan node and driver what its operator keeps and what the hand behind it holds.
use Rattle.std.specs.Prelude.{ℕ, Bool, List, [], ◌∷◌, map, fold}
use Rattle.std.specs.FinMap.{FinMap, from_entries, entries}
use Rattle.std.specs.Ordering.{eq_by_cmp}
use Rattle.std.specs.Prelude.{filter}
use Rattle.vx_value.specs.declared.value.Value.{Value}
use Rattle.vx_value.specs.Row.{Row}
use Rattle.vx_value.specs.KeyBytes.{key_values}
use Rattle.vx_plan.specs.declared.aggregate.Aggregate.{Aggregate}
use Rattle.vx_plan.specs.declared.aggregate.Step.{Step}
use Rattle.vx_meaning.specs.Folds.{part, empty, plus_all}
use Rattle.vx_meaning.specs.Groups.{Outcome, key_cmp, outcome}
use Rattle.vx_meaning.specs.Joins.{Build}

-- A row of a group as it stands in memory or in a run: its key, and a fold for each aggregate. A key may stand in
-- several rows, and its folds are then the `plus` of theirs.
pub record Group : Type 0 where
  pub key : Row
  pub folds : List Value

-- What an operator keeps, but a join's. Each kind of node reads what it has.
pub record Held : Type 0 where
  pub rows : List Row
  pub skip : ℕ
  pub left : ℕ
  pub groups : List Group
  pub ended : Bool

-- What a join keeps: build rows with flags, deferred probe rows, rows owed to probe batches in work; and whether the
-- build's and the probe's input have ended.
pub record HeldJoin : Type 0 where
  pub build : List Build
  pub deferred : List Row
  pub owed : List Row
  pub built : Bool
  pub ended : Bool

-- By node number and driver: what operators keep, and the rows of the hand behind the node; what joins keep; and the
-- rows that have come out.
pub record Holding : Type 0 where
  pub held : ℕ → ℕ → Held
  pub join : ℕ → HeldJoin
  pub hand : ℕ → ℕ → List Row
  pub out : List Row

-- ---- groups

-- the group of one row
abbrev pub group_of : Step → List ℕ → List Aggregate → Row → Group
group_of step keys aggregates row =
    record { key = key_values keys row; folds = map (λ a. part step a.name a.column row) aggregates }

-- without keys there is a group also over no rows
abbrev pub first_groups : List ℕ → List Aggregate → List Group
first_groups [] aggregates = record { key = []; folds = map (λ a. empty a.name) aggregates } ∷ []
first_groups (key ∷ keys) aggregates = []

-- the folds of these groups put together
abbrev pub folds_over : List Aggregate → List Group → List Value
folds_over aggregates groups =
    fold (λ so_far g. plus_all aggregates so_far g.folds) (map (λ a. empty a.name) aggregates) groups

-- those of one key
abbrev pub having_key : Row → List Group → List Group
having_key key groups = filter (λ g. eq_by_cmp key_cmp key g.key) groups

-- from each key its folds
abbrev pub gathered : List Aggregate → List Group → FinMap key_cmp (List Value)
gathered aggregates groups =
    from_entries (map (λ key. (key, folds_over aggregates (having_key key groups))) (map (λ g. g.key) groups))

-- what becomes of each key
abbrev pub outcomes : Step → List Aggregate → List Group → List Outcome
outcomes step aggregates groups = map (outcome step aggregates) (entries (gathered aggregates groups))
