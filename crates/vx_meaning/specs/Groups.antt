-- Rows grouped by a key, as SQL's GROUP BY: two nulls are one key.
use Rattle.std.specs.Prelude.{ℕ, List, [], ◌∷◌, ◌++◌, map, filter, Option, Some, None, Result, Ok, Err}
use Rattle.std.specs.declared.cmp.Ordering.{Ordering}
use Rattle.std.specs.Ordering.{eq_by_cmp}
use Rattle.std.specs.Cmp.Lexicographic.{slice_cmp}
use Rattle.std.specs.FinMap.{FinMap, from_entries, entries}
use Rattle.vx_value.specs.declared.value.Value.{Value}
use Rattle.vx_value.specs.Order.{cmp_values}
use Rattle.vx_value.specs.Row.{Row}
use Rattle.vx_value.specs.KeyBytes.{key_values}
use Rattle.vx_plan.specs.declared.aggregate.Aggregate.{Aggregate}
use Rattle.vx_plan.specs.declared.aggregate.Step.{Step}
use Rattle.vx_meaning.specs.Folds.{folds_of, finish_all}

-- the order of keys, value by value
abbrev pub key_cmp : Row → Row → Ordering
key_cmp = slice_cmp cmp_values

-- the order of rows by the values in some columns
abbrev pub by_columns : List ℕ → Row → Row → Ordering
by_columns columns a b = key_cmp (key_values columns a) (key_values columns b)

-- the rows with this key
abbrev pub with_key : List ℕ → Row → List Row → List Row
with_key keys key rows = filter (λ row. eq_by_cmp key_cmp key (key_values keys row)) rows

-- the keys of the rows; without columns the one key is [], also where there is no row
abbrev pub keys_in : List ℕ → List Row → List Row
keys_in [] rows = [] ∷ []
keys_in (column ∷ columns) rows = map (key_values (column ∷ columns)) rows

-- from each key the folds of its rows
abbrev pub folds_by_key : Step → List ℕ → List Aggregate → List Row → FinMap key_cmp (List Value)
folds_by_key step keys aggregates rows = from_entries (map (λ key. (key, folds_of step aggregates (with_key keys key rows))) (keys_in keys rows))

-- the row of a group, or its key where a sum or count overflows
abbrev pub Outcome : Type 0
Outcome = Result Row Row

abbrev pub row_or_key : Row → Option (List Value) → Outcome
row_or_key key None = Err key
row_or_key key (Some cells) = Ok (key ++ cells)

abbrev pub outcome : Step → List Aggregate → Row × List Value → Outcome
outcome step aggregates group = row_or_key group.0 (finish_all step aggregates group.1)

-- what becomes of each group: the key, and then its aggregates
abbrev pub groups : Step → List ℕ → List Aggregate → List Row → List Outcome
groups step keys aggregates rows = map (outcome step aggregates) (entries (folds_by_key step keys aggregates rows))
