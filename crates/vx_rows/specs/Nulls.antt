-- Null bits: bit i of byte k is that of the field 8k + i, and 1 says that it is null.
use Rattle.std.specs.Prelude.{◌≡◌, ℕ, ◌/◌, ◌%◌, ◌<◌, ◌==◌, Bool, List, slice_index, if◌then◌else◌}
use Rattle.std.specs.Int.{bit_at}

unfoldable pub is_null_in : List ℕ → ℕ → Bool
is_null_in bits which = bit_at (slice_index bits (which / 8)) (which % 8) == 1

-- one bit of a byte says so now, and all others are as they were
pub record SetsBit (before after bit : ℕ) (null : Bool) : Type 0 where
  pub byte : after < 256
  pub set : bit_at after bit ≡ (if null then 1 else 0)
  pub others : (i : ℕ) → (i ≡ bit → ⊥) → i < 8 → bit_at after i ≡ bit_at before i
