-- The board that is measured.
use Rattle.std.specs.Prelude.{◌≤◌}
use Rattle.vx_board.specs.Seats.{Size}

-- room for 64 jobs, and for every peak that is posted
pub record IsLarge (board : Size) : Type 0 where
  pub jobs : 64 ≤ board.terms.jobs
  pub total : 1048576 ≤ board.terms.total
