-- How far a query is from its end: numbers, of which the first that changes falls at each move.
use Rattle.std.specs.Prelude.{◌≡◌, ◌⊎◌, ℕ, ◌<◌, ◌+◌, ◌*◌, ◌^◌, List, [], ◌∷◌, ◌++◌, length}
use Rattle.vx_plan.specs.Tree.{Tree, values, over, join}

-- Of one node: the rows that its operators keep; those that a join owes; those of them in memory that can be reclaimed;
-- the runs that stand; the batches and rows in the hands behind the node, and the phases that its drivers haven't left.
pub record Places : Type 0 where
  pub moves : ℕ
  pub owed : ℕ
  pub kept : ℕ
  pub runs : ℕ
  pub pending : ℕ

-- as a list
abbrev pub five : Places → List ℕ
five p = p.moves ∷ p.owed ∷ p.kept ∷ p.runs ∷ p.pending ∷ []

-- sources before what stands over them
abbrev pub rank : (ℕ → Places) → Tree → List ℕ
rank places (values id kinds all parallel) = five (places id)
rank places (over id own source) = rank places source ++ five (places id)
rank places (join id kind left_keys right_keys left right) = rank places left ++ (rank places right ++ five (places id))

-- the first number that differs is less
abbrev pub IsLower : List ℕ → List ℕ → Type 0
IsLower [] old = ⊥
IsLower (x ∷ new) [] = ⊥
IsLower (x ∷ new) (y ∷ old) = (x < y) ⊎ (x ≡ y) × IsLower new old

-- as one number, for numbers that are less than a base
abbrev pub as_number : ℕ → List ℕ → ℕ
as_number base [] = 0
as_number base (x ∷ xs) = x * base ^ length xs + as_number base xs
