use Rattle.std.proofs.Common.{◌≤◌, subst, sym, arith}
use Rattle.vx_board.specs.declared.view.View.{View}
use Rattle.vx_board.specs.Seats.{Size, Posts}
use Rattle.vx_board.proofs.Moves.{posts}
use Rattle.vx_board.proofs.Owned.{own_inside, low_inside, own_after, told_outside, sees_whole}
use Rattle.vx_board.proofs.board.Board.post.Goals as goal

pub fetch_max-requires : goal.fetch_max-requires
fetch_max-requires c =
    let own = own_inside _ _ _ _ c.self.view_is c.seat.view_is c.requires.seat in
    let low = low_inside _ _ c.args.job c.self.view_is c.requires.job in
    let within = subst (λ (z : Size). c.args.peak ≤ z.terms.total) (sym c.self.view_is) c.requires.peak in
    let at = c.peak_at.ensures in
    (own.table, omega arith, posts _ _ _ _ c.args.job c.args.peak _ at low own.whole within)

pub returns-clause-post : goal.returns-clause-post
returns-clause-post c =
    told_outside (λ (v : View). Posts v c.args.job c.args.peak c.fetch_max.new.seat.me.0) _ _ c.seat.view_is
    (c.fetch_max.ensures.2.1 c.args.job c.peak_at.ensures)

pub returns-clause-own : goal.returns-clause-own
returns-clause-own c =
    own_after _ _ _ _ _ c.self.view_is c.seat.view_is c.requires.seat c.fetch_max.ensures.0
    (sees_whole _ _ _ _ _ (c.fetch_max.ensures.2.1 c.args.job c.peak_at.ensures).sees)
