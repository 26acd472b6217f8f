-- How a pool rounds what it reserves: the larger the amount, the coarser the step.
use Rattle.std.specs.Prelude.{ℕ, ◌*◌, ◌≤◌, IsTrue, nat_lt, if◌then◌else◌}
use Rattle.std.specs.Int.{next_multiple_of, is_power_of_two}

-- a power of two from 4,096 to 1,048,576
pub record IsUnit (unit : ℕ) : Type 0 where
  pub low : 4096 ≤ unit
  pub high : unit ≤ 1048576
  pub power : IsTrue (is_power_of_two unit)

-- how much is reserved for so many bytes: the next multiple of a step of one unit below 16 units, of
-- four units below 64, and of eight from there on
abbrev pub quantum : ℕ → ℕ → ℕ
quantum unit size =
    if nat_lt size (16 * unit) then next_multiple_of size unit
    else if nat_lt size (64 * unit) then next_multiple_of size (4 * unit)
    else next_multiple_of size (8 * unit)
