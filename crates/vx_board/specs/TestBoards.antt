-- The boards of the tests. No public clause cites this module.
use Rattle.std.specs.Prelude.{◌≤◌}
use Rattle.vx_board.specs.Seats.{Size}

-- room for the tests' 1,000 jobs and their peaks
pub record IsLarge (board : Size) : Type 0 where
  pub jobs : 1000 ≤ board.terms.jobs
  pub total : 10000 ≤ board.terms.total
