-- A null bit that is set or cleared.
use Rattle.std.proofs.Common.{◌≡◌, ℕ, ◌-◌, ◌*◌, ◌%◌, ◌^◌, ◌<◌, ◌≤◌, Bool, true, false, bit_and, bit_or, w8, refl, ◌∙◌, arith}
use Rattle.std.proofs.lemmas.Nat.{or_lt, and_le_l}
use Rattle.std.proofs.lemmas.Nat.Bits.{bit_at_set_same, bit_at_set_other, bit_at_clear_same, bit_at_clear_other}
use Rattle.vx_rows.specs.Nulls.{SetsBit}

pub sets : (byte bit : ℕ) (null : Bool) → bit < 8 → byte < 256 → null ≡ true → SetsBit byte (bit_or byte (1 * 2 ^ bit % 256)) bit null
sets byte bit null low fits is_so = record {
  byte = or_lt 8 byte (1 * 2 ^ bit % 256) fits (omega arith);
  set = bit_at_set_same w8 byte bit low ∙ rw is_so refl;
  others = λ i apart less. bit_at_set_other w8 byte bit low i apart;
}

pub clears : (byte bit : ℕ) (null : Bool) → bit < 8 → byte < 256 → null ≡ false → SetsBit byte (bit_and byte (255 - 1 * 2 ^ bit % 256)) bit null
clears byte bit null low fits no_null =
    let below : bit_and byte (255 - 1 * 2 ^ bit % 256) ≤ byte = and_le_l byte (255 - 1 * 2 ^ bit % 256) in
    record {
      byte = omega (arith, below, fits);
      set = bit_at_clear_same w8 byte bit low ∙ rw no_null refl;
      others = λ i apart less. bit_at_clear_other w8 byte bit low i less apart;
    }
