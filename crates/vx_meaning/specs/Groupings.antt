-- An aggregation as its code has it, and what its parts give.
use Rattle.std.specs.Prelude.{◌≡◌, ◌≢◌, ℕ, ◌<◌, List, map, length, take, get_or, All, Ok, Err}
use Rattle.std.specs.declared.cmp.Ordering.TheVariants.{Equal}
use Rattle.vx_value.specs.Row.{Row}
use Rattle.vx_expr.specs.declared.outcome.Fault.{Fault}
use Rattle.vx_expr.specs.declared.outcome.Fault.TheVariants.{Overflow}
use Rattle.vx_plan.specs.declared.widths.Width.TheVariants.{One}
use Rattle.vx_meaning.specs.declared.grouping.Grouping.{Grouping}
use Rattle.vx_meaning.specs.Folds.{folds_of, finish_all}
use Rattle.vx_meaning.specs.Groups.{Outcome, by_columns, row_or_key, groups}
use Rattle.vx_meaning.specs.Lines.{Grouped}
use Rattle.vx_meaning.specs.Faulty.{GroupFaults}
use Rattle.vx_meaning.specs.Stopped.{Exactly}

-- what becomes of the groups of these rows
abbrev pub groups_by : Grouping → List Row → List Outcome
groups_by g rows = groups g.step g.keys.now g.aggregates.now rows

-- what becomes of one group
abbrev pub group_by : Grouping → Row → List Row → Outcome
group_by g key rows = row_or_key key (finish_all g.step g.aggregates.now (folds_of g.step g.aggregates.now rows))

-- all these rows are dealt into one list
abbrev pub GroupsOf : Grouping → List Row → List Row → Type 0
GroupsOf g below rows = Grouped g.step g.keys.now g.aggregates.now One (Exactly below) (map Ok rows)

-- the node stops at a group of these rows
abbrev pub StopsInGroups : Grouping → List Row → ℕ → Row → Fault → Type 0
StopsInGroups g rows node key code = (g.id ≡ node) × GroupFaults g.step g.keys.now g.aggregates.now (Exactly rows) key code

-- it stops at this group
abbrev pub StopsInGroup : Grouping → Row → List Row → ℕ → Row → Fault → Type 0
StopsInGroup g key rows node row code = (g.id ≡ node) × (Err row ≡ group_by g key rows) × (code ≡ Overflow)

-- the first rows, so many, have the values of this row in the columns, and the next one hasn't
pub record IsRun (columns : List ℕ) (first : Row) (rows : List Row) (count : ℕ) : Type 0 where
  pub same : All (λ row. by_columns columns first row ≡ Equal) (take count rows)
  pub ends : (d : Row) → count < length rows → by_columns columns first (get_or rows count d) ≢ Equal
