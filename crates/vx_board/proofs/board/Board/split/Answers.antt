use Rattle.std.proofs.Common.{arith}
use Rattle.vx_board.proofs.Moves.{splits}
use Rattle.vx_board.proofs.Owned.{own_inside}
use Rattle.vx_board.proofs.board.Board.split.Goals as goal

pub split_seat-token-requires : goal.split_seat-token-requires
split_seat-token-requires c =
    let own = own_inside _ _ _ _ c.self.view_is c.seat.view_is c.requires in
    (own.table, omega arith, splits _ _ _ own.whole)
