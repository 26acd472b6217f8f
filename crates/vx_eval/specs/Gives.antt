-- What typed buffers give, row by row.
use Rattle.std.specs.Prelude.{◌≡◌, ℕ, ◌<◌, Bool, true, false, List, get_or}
use Rattle.vx_expr.specs.declared.outcome.Got.{Got}
use Rattle.vx_vector.specs.Lanes.{rows_of}
use Rattle.vx_vector.specs.declared.lanes.Lanes.{Lanes}
use Rattle.vx_eval.specs.Got.{got_at}

-- so many rows, each a value or a fault as said
pub record Gives (count : ℕ) (each : ℕ → Got) (l : Lanes) : Type 0 where
  pub rows : rows_of l ≡ count
  pub at : (k : ℕ) → k < count → got_at l k ≡ each k

-- the same on the wanted rows
pub record GivesWhere (wanted : List Bool) (count : ℕ) (each : ℕ → Got) (l : Lanes) : Type 0 where
  pub rows : rows_of l ≡ count
  pub at : (k : ℕ) → k < count → get_or wanted k false ≡ true → got_at l k ≡ each k
