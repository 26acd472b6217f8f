-- Joins of two lists of rows, as SQL's: a null matches nothing.
use Rattle.std.specs.Prelude.{ℕ, Bool, false, not, ◌&&◌, ◌||◌, List, [], ◌∷◌, ◌++◌, map, filter, flat_map, replicate}
use Rattle.std.specs.List.{list_any}
use Rattle.std.specs.Ordering.{eq_by_cmp}
use Rattle.vx_value.specs.declared.value.Value.TheVariants.{Null}
use Rattle.vx_value.specs.Value.{is_null}
use Rattle.vx_value.specs.Row.{Row}
use Rattle.vx_value.specs.KeyBytes.{key_values}
use Rattle.vx_plan.specs.declared.node.JoinKind.{JoinKind}
use Rattle.vx_plan.specs.declared.node.JoinKind.TheVariants.{Inner, Left, Right, Full, Semi, Anti}
use Rattle.vx_meaning.specs.Groups.{key_cmp}

-- what rows are joined on, and how many columns each side has
pub record On : Type 0 where
  pub left_keys : List ℕ
  pub right_keys : List ℕ
  pub left_columns : ℕ
  pub right_columns : ℕ

-- all keys are equal and none is null
abbrev pub matches : On → Row → Row → Bool
matches on left right = not (list_any is_null (key_values on.left_keys left)) && eq_by_cmp key_cmp (key_values on.left_keys left) (key_values on.right_keys right)

-- A row of the right side, and whether a left row that stands no more in the list matched it.
pub record Build : Type 0 where
  pub row : Row
  pub matched : Bool

abbrev pub fresh : Row → Build
fresh row = record { row = row; matched = false }

abbrev pub nulls : ℕ → Row
nulls count = replicate count Null

-- the right rows that match a left row
abbrev pub partners : On → List Build → Row → List Row
partners on build left = filter (matches on left) (map (λ b. b.row) build)

-- the left row with each of them
abbrev pub pairs : Row → List Row → List Row
pairs left rights = map (λ right. left ++ right) rights

abbrev pub if_none : List Row → List Row → List Row → List Row
if_none [] none some = none
if_none (right ∷ rights) none some = some

-- what a left row gives, by the rows that match it
abbrev pub given : JoinKind → On → Row → List Row → List Row
given Inner on left rights = pairs left rights
given Left on left rights = if_none rights ((left ++ nulls on.right_columns) ∷ []) (pairs left rights)
given Right on left rights = pairs left rights
given Full on left rights = if_none rights ((left ++ nulls on.right_columns) ∷ []) (pairs left rights)
given Semi on left rights = if_none rights [] (left ∷ [])
given Anti on left rights = if_none rights (left ∷ []) []

-- what all left rows give
abbrev pub probed : JoinKind → On → List Row → List Build → List Row
probed kind on probe build = flat_map (λ left. given kind on left (partners on build left)) probe

-- whether a right row has no match
abbrev pub is_alone : On → List Row → Build → Bool
is_alone on probe b = not (b.matched || list_any (λ left. matches on left b.row) probe)

-- the right rows without a match, with nulls before them
abbrev pub alone : On → List Row → List Build → List Row
alone on probe build = map (λ b. nulls on.left_columns ++ b.row) (filter (is_alone on probe) build)

abbrev pub unmatched : JoinKind → On → List Row → List Build → List Row
unmatched Right on probe build = alone on probe build
unmatched Full on probe build = alone on probe build
unmatched _ on probe build = []

abbrev pub joined : JoinKind → On → List Row → List Build → List Row
joined kind on probe build = probed kind on probe build ++ unmatched kind on probe build
