use Rattle.std.proofs.Common.{Bool, not, sym, ◌∙◌, ap}
use Rattle.vx_world.proofs.Finding.{test_found, test_missing}
use Rattle.vx_world.proofs.seats.is_going.Goals as goal

pub returns-in-Some : goal.returns-in-Some
returns-in-Some g c =
    ap (λ (b : Bool). not b) c.ended.ensures
    ∙ test_found g.M.Member c.args.members.now c.args.job c.in-Some.place c.index-members-place.result (λ member. not (g.M.Member.ended_is member))
    (sym c.seat_of.ensures ∙ c.in-Some.is) c.index-members-place.is

pub returns-in-None : goal.returns-in-None
returns-in-None g c =
    test_missing g.M.Member c.args.members.now c.args.job (λ member. not (g.M.Member.ended_is member)) (sym c.seat_of.ensures ∙ c.in-None.is)
