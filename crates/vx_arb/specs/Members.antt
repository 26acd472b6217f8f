-- What a member tells of itself, and how its answers fit its numbers.
use Rattle.std.specs.Prelude.{◌≡◌, ℕ, ◌-◌, ◌<◌, ◌≤◌, Bool, true, false, Option, Some, None}
use Rattle.vx_arb.specs.declared.members.Lack.{Lack}
use Rattle.vx_arb.specs.declared.members.Move.{Move}
use Rattle.vx_arb.specs.declared.members.Move.TheVariants.{Moved, Ended, Short}

-- the reserved amount is at most the capacity, and the rest of the capacity is unused
pub record IsWithin (capacity reserved unused : ℕ) : Type 0 where
  pub bounded : reserved ≤ capacity
  pub rest : unused ≡ capacity - reserved

-- the numbers of a lack: the capacity would have to be `need` more than the member has
pub record IsLackOf (capacity reserved : ℕ) (lack : Lack) : Type 0 where
  pub has : lack.capacity ≡ capacity
  pub holds : lack.reserved ≡ reserved
  pub past : lack.capacity < lack.would
  pub missing : lack.need ≡ lack.would - lack.capacity

-- what a step answered that it lacks
abbrev pub lack_of : Move → Option Lack
lack_of Moved = None
lack_of Ended = None
lack_of (Short lack) = Some lack

-- whether a step answered that the member has ended
abbrev pub is_end : Move → Bool
is_end Moved = false
is_end Ended = true
is_end (Short lack) = false

-- a fact, where a step answered that it lacks something
abbrev pub OnShort : Move → Type 0 → Type 0
OnShort Moved P = Unit {0}
OnShort Ended P = Unit {0}
OnShort (Short lack) P = P
