-- Numbers from the least to the greatest.
use Rattle.std.specs.Prelude.{ℕ, List, [], ◌∷◌, nat_lt, if◌then◌else◌}

-- a number put before the first that is greater
abbrev pub placed : ℕ → List ℕ → List ℕ
placed number [] = number ∷ []
placed number (first ∷ rest) =
    if nat_lt number first then number ∷ first ∷ rest else first ∷ placed number rest

-- the same numbers, each as often, from the least to the greatest
abbrev pub ascending : List ℕ → List ℕ
ascending [] = []
ascending (first ∷ rest) = placed first (ascending rest)
