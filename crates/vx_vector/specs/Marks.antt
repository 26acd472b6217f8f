-- What is done to the marks of rows, a byte each: 0 is fine, 1 is a null, and from 2 on a caller's own faults.
use Rattle.std.specs.Prelude.{ℕ, Bool, if◌then◌else◌, nat_eq, nat_le, List, map, zip}

-- The mark of a function of two arguments that is null where one of them is, as SQL's are: the left's fault comes
-- first, since arguments are evaluated from left to right, then the right's, and a null only where there is none.
abbrev pub strict_mark : ℕ → ℕ → ℕ
strict_mark left right = if nat_le 2 left then left else if nat_le right left then left else right

abbrev pub strict_marks : List ℕ → List ℕ → List ℕ
strict_marks lefts rights = map (λ p. strict_mark p.0 p.1) (zip lefts rights)

-- null becomes fine, and fine null
abbrev pub inverted_mark : ℕ → ℕ
inverted_mark mark = if nat_eq mark 0 then 1 else 0

abbrev pub is_fine : ℕ → Bool
is_fine mark = nat_eq mark 0

abbrev pub is_fault : ℕ → Bool
is_fault mark = nat_le 2 mark
