-- A selection is the list of its places, which ascend.
use Rattle.std.specs.Prelude.{◌≡◌, ℕ, ◌↔◌, Bool, true, ◌&&◌, nat_lt, List, [], ◌∷◌, length, IsTrue}
use Rattle.std.specs.List.{range_with_len}

-- whether each place is less than the next
abbrev pub ascends : List ℕ → Bool
ascends [] = true
ascends (a ∷ []) = true
ascends (a ∷ b ∷ more) = nat_lt a b && ascends (b ∷ more)

-- whether it is known that each place is its own number
pub record IsSelection (whole : Bool) (places : List ℕ) : Type 0 where
  pub up : IsTrue (ascends places)
  pub each : IsTrue whole ↔ (places ≡ range_with_len 0 (length places))
