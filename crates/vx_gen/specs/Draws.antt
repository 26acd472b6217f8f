-- A linear congruential generator of 64 bits, with the multiplier and the increment that Knuth takes for MMIX.
use Rattle.std.specs.Prelude.{ℕ, zero, suc, ◌+◌, ◌*◌, ◌/◌, ◌%◌, ◌^◌}

-- the state after another
abbrev pub next_state : ℕ → ℕ
next_state x = (x * 6364136223846793005 + 1442695040888963407) % 2 ^ 64

-- the state after so many draws from a number
unfoldable pub state_after : ℕ → ℕ → ℕ
state_after number zero = number
state_after number (suc k) = next_state (state_after number k)

-- what a draw gives of the state that it leaves: its upper 31 bits
abbrev pub drawn : ℕ → ℕ
drawn x = x / 2 ^ 33

-- the draws from a number, counted from 0
abbrev pub draw : ℕ → ℕ → ℕ
draw number k = drawn (state_after number (k + 1))
