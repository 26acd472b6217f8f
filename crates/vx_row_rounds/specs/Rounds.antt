-- What is kept from round to round: a batch of two columns, and the numbers of live rows, none twice.
use Rattle.std.specs.Prelude.{◌≡◌, ◌≢◌, ℕ, ◌<◌, Option, None, IsSome, List, length, slice_index_or}
use Rattle.vx_vector.specs.Column.{Column}
use Rattle.vx_rows.specs.Container.{LiveRow}

abbrev pub IsColumn : Column → Type 0
IsColumn c = length c.values ≡ 1000

-- two columns
abbrev pub AreTwo : List Column → Type 0
AreTwo columns = length columns ≡ 2

-- each number is a live row's, and none stands twice
pub record AreKept (rows : List (Option LiveRow)) (numbers : List ℕ) : Type 0 where
  pub live : (k : ℕ) → k < length numbers → IsSome (slice_index_or rows (slice_index_or numbers k 0) None)
  pub apart : (j k : ℕ) → j < k → k < length numbers → slice_index_or numbers j 0 ≢ slice_index_or numbers k 0
