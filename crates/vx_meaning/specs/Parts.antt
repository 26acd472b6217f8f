-- A join's rows dealt into parts.
use Rattle.std.specs.Prelude.{◌≡◌, ℕ, ◌+◌, false, List, [], ◌∷◌, flat_map, All, ⊤}
use Rattle.std.specs.List.{list_any}
use Rattle.vx_value.specs.Value.{is_null}
use Rattle.vx_value.specs.Row.{Row}
use Rattle.vx_value.specs.KeyBytes.{key_values}
use Rattle.vx_plan.specs.declared.node.JoinKind.{JoinKind}
use Rattle.vx_meaning.specs.Joins.{On, Build, matches, joined}

-- some left rows, and some right rows with their flags
pub record Part : Type 0 where
  pub probe : List Row
  pub build : List Build

abbrev pub all_probe : List Part → List Row
all_probe parts = flat_map (λ part. part.probe) parts

abbrev pub all_build : List Part → List Build
all_build parts = flat_map (λ part. part.build) parts

-- the joined rows of each part, put together
abbrev pub joined_in_parts : JoinKind → On → List Part → List Row
joined_in_parts kind on parts = flat_map (λ part. joined kind on part.probe part.build) parts

-- no left row of the one matches a right row of the other
abbrev pub Apart : On → List Row → List Build → Type 0
Apart on probe build = All (λ left. All (λ (b : Build). matches on left b.row ≡ false) build) probe

-- nothing matches between two different parts
abbrev pub AreApart : On → List Part → Type 0
AreApart on [] = ⊤
AreApart on (part ∷ parts) = All (λ other. Apart on part.probe other.build × Apart on other.probe part.build) parts × AreApart on parts

-- where its key has no null, a row lies in the part that its key has; with a null it may lie in any
abbrev pub LiesIn : (Row → ℕ) → List ℕ → ℕ → Row → Type 0
LiesIn deal keys part row = list_any is_null (key_values keys row) ≡ false → deal (key_values keys row) ≡ part

-- the parts, numbered from this one on, are dealt by a function of the key
abbrev pub AreDealtFrom : ℕ → (Row → ℕ) → On → List Part → Type 0
AreDealtFrom number deal on [] = ⊤
AreDealtFrom number deal on (part ∷ parts) =
    All (LiesIn deal on.left_keys number) part.probe
    × All (λ (b : Build). LiesIn deal on.right_keys number b.row) part.build
    × AreDealtFrom (number + 1) deal on parts
