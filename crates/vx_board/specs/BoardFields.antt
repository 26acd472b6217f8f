-- What the fields of a `Board` mean. No public clause cites this module.
use Rattle.std.specs.Prelude.{◌≡◌, ◌*◌, ◌<◌}
use Rattle.vx_board.specs.Seats.{Size}
use Rattle.vx_board.specs.declared.board.Board.TheInside.{Inside}

abbrev pub size_of : Inside → Size
size_of board = record {
  table = board.table.shared.table_id;
  terms = board.table.shared.key;
}

-- the table has two words for each job
pub record IsSized (board : Inside) : Type 0 where
  pub jobs : 0 < board.table.shared.key.jobs
  pub words : board.table.shared.table_id.words ≡ 2 * board.table.shared.key.jobs
