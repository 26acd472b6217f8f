use Rattle.std.proofs.Common.{◌∙◌, sym, subst, arith}
use Rattle.vx_board.specs.Seats.{IsWhole}
use Rattle.vx_board.specs.Kinds.{Sat}
use Rattle.vx_board.proofs.Moves.{joins, looks, together_whole}
use Rattle.vx_board.proofs.Owned.{own_inside, own_after}
use Rattle.vx_board.proofs.board.Board.join.Goals as goal

pub join_seat-requires : goal.join_seat-requires
join_seat-requires c =
    let own = own_inside _ _ _ _ c.self.view_is c.seat.view_is c.requires.seat in
    let other = own_inside _ _ _ _ c.self.view_is c.other.view_is c.requires.other in
    (own.table, other.table, c.other.invariant, omega arith, joins _ _ _ _ _ own.whole other.whole)

pub load-requires : goal.load-requires
load-requires c =
    let own = own_inside _ _ _ _ c.self.view_is c.seat.view_is c.requires.seat in
    (c.join_seat.ensures.0 ∙ own.table, omega arith, looks _ _ _ _ _)

pub returns-clause-own : goal.returns-clause-own
returns-clause-own c =
    let other = own_inside _ _ _ _ c.self.view_is c.other.view_is c.requires.other in
    own_after _ _ _ _ _ c.self.view_is c.seat.view_is c.requires.seat
    (c.load.ensures.0 ∙ c.join_seat.ensures.0)
    (λ whole.
    subst (λ (m : Sat). IsWhole c.self.inside.table.shared.key m.0)
    (sym (c.load.ensures.2.0 ∙ c.join_seat.ensures.2))
    (together_whole _ _ _ whole other.whole))
