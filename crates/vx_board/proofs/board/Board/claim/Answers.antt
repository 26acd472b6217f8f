use Rattle.std.proofs.Common.{eqb, arith}
use Rattle.vx_board.specs.declared.view.View.{View}
use Rattle.vx_board.specs.Seats.{Claims}
use Rattle.vx_board.proofs.Moves.{claims}
use Rattle.vx_board.proofs.Owned.{own_inside, low_inside, own_after, told_outside, claims_whole}
use Rattle.vx_board.proofs.board.Board.claim.Goals as goal

pub swap-found-requires : goal.swap-found-requires
swap-found-requires c =
    let own = own_inside _ _ _ _ c.self.view_is c.seat.view_is c.requires.seat in
    let low = low_inside _ _ c.args.job c.self.view_is c.requires.job in
    let at = c.claim_at.ensures in
    (own.table, omega arith, claims _ _ _ _ c.args.job _ at low own.whole)

pub returns-clause-claim : goal.returns-clause-claim
returns-clause-claim c =
    told_outside
    (λ (v : View). Claims v c.args.job (eqb c.swap-found.result 0) c.swap-found.new.seat.me.0) _ _ c.seat.view_is
    (c.swap-found.ensures.2.1 c.args.job c.claim_at.ensures)

pub returns-clause-own : goal.returns-clause-own
returns-clause-own c =
    own_after _ _ _ _ _ c.self.view_is c.seat.view_is c.requires.seat c.swap-found.ensures.0
    (claims_whole _ _ _ _ _ (c.swap-found.ensures.2.1 c.args.job c.claim_at.ensures))
