use Rattle.std.proofs.Common.{arith}
use Rattle.vx_board.specs.declared.view.View.{View}
use Rattle.vx_board.specs.Seats.{Sees}
use Rattle.vx_board.proofs.Moves.{peeks}
use Rattle.vx_board.proofs.Owned.{own_inside, low_inside, own_after, told_outside, sees_whole}
use Rattle.vx_board.proofs.board.Board.peek.Goals as goal

pub load-requires : goal.load-requires
load-requires c =
    let own = own_inside _ _ _ _ c.self.view_is c.seat.view_is c.requires.seat in
    let low = low_inside _ _ c.args.job c.self.view_is c.requires.job in
    let at = c.peak_at.ensures in
    (own.table, omega arith, peeks _ _ _ _ c.args.job _ at low own.whole)

pub returns-clause-peek : goal.returns-clause-peek
returns-clause-peek c =
    told_outside (λ (v : View). Sees v c.args.job c.load.result c.load.new.seat.me.0) _ _ c.seat.view_is
    (c.load.ensures.2.1 c.args.job c.peak_at.ensures)

pub returns-clause-own : goal.returns-clause-own
returns-clause-own c =
    own_after _ _ _ _ _ c.self.view_is c.seat.view_is c.requires.seat c.load.ensures.0
    (sees_whole _ _ _ _ _ (c.load.ensures.2.1 c.args.job c.peak_at.ensures))
