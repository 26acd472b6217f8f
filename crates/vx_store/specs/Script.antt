-- The calls of an object in memory: they are numbered from 0, and those fail whose numbers it was made with.
use Rattle.std.specs.Prelude.{ℕ, ◌+◌, ◌-◌, ◌^◌, ◌==◌, min, Bool, List}
use Rattle.std.specs.List.{list_any}

-- one more, up to the last u64
abbrev pub counted : ℕ → ℕ
counted n = min (n + 1) (2 ^ 64 - 1)

-- the call of this number is one of those that fail
abbrev pub is_to_fail : List ℕ → ℕ → Bool
is_to_fail fails call = list_any (λ k. k == call) fails
