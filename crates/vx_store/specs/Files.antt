-- Files by number: a finite map from numbers to bytes.
use Rattle.std.specs.Prelude.{◌≡◌, ◌≢◌, ℕ, List, Option, None, slice_index_or}

-- the map as a list: at place n stand the bytes of the file of number n, if it is there
abbrev pub Files : Type 0
Files = List (Option (List ℕ))

-- the bytes of the file of this number, if it is there
abbrev pub bytes_at : Files → ℕ → Option (List ℕ)
bytes_at files n = slice_index_or files n None

-- the file of this number has changed so, and each other is as it was
pub record SetsOnly (before after : Files) (n : ℕ) (bytes : Option (List ℕ)) : Type 0 where
  pub file : bytes_at after n ≡ bytes
  pub others : (k : ℕ) → k ≢ n → bytes_at after k ≡ bytes_at before k
