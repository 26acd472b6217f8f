-- Objects whose calls fail by a list: the calls are numbered from 0, and those that the list names fail.
use Rattle.std.specs.Prelude.{ℕ, List, Bool, nat_lt}
use Rattle.std.specs.List.{list_all}

-- so many calls were made, and of the list none is still to come
abbrev pub none_to_fail : List ℕ → ℕ → Bool
none_to_fail fails calls = list_all (λ k. nat_lt k calls) fails
