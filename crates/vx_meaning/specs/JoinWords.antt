-- A join as its code has it, and what its parts give.
use Rattle.std.specs.Prelude.{Bool, if◌then◌else◌, List, [], ◌∷◌, map, filter}
use Rattle.vx_value.specs.Row.{Row}
use Rattle.vx_plan.specs.declared.node.JoinKind.{JoinKind}
use Rattle.vx_meaning.specs.declared.joining.Joining.{Joining}
use Rattle.vx_meaning.specs.Joins.{On, fresh, matches, pairs, given, probed, alone, joined}

-- what its rows are joined on
abbrev pub on_of : Joining → On
on_of joining = record {
  left_keys = joining.left_keys.now;
  right_keys = joining.right_keys.now;
  left_columns = joining.left_columns;
  right_columns = joining.right_columns;
}

-- the joined rows of two whole lists
abbrev pub joined_by : Joining → List Row → List Row → List Row
joined_by joining left right = joined joining.kind (on_of joining) left (map fresh right)

-- what the left rows give
abbrev pub probed_by : Joining → List Row → List Row → List Row
probed_by joining left right = probed joining.kind (on_of joining) left (map fresh right)

-- the right rows without a match
abbrev pub alone_by : Joining → List Row → List Row → List Row
alone_by joining left right = alone (on_of joining) left (map fresh right)

-- what one left row gives in a join of this kind
abbrev pub given_by : JoinKind → Joining → Row → List Row → List Row
given_by kind joining left right = given kind (on_of joining) left (filter (matches (on_of joining) left) right)

-- its pairs
abbrev pub pairs_by : Joining → Row → List Row → List Row
pairs_by joining left right = pairs left (filter (matches (on_of joining) left) right)

-- a row or none
abbrev pub row_if : Bool → Row → List Row
row_if wanted row = if wanted then row ∷ [] else []
