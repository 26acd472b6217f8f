use Rattle.std.proofs.Common.{ℕ, eqb, sym, ◌∙◌, ap}
use Rattle.vx_world.proofs.Finding.{test_found, test_missing}
use Rattle.vx_world.proofs.seats.is_idle.Goals as goal

pub returns-in-Some : goal.returns-in-Some
returns-in-Some g c =
    ap (λ (n : ℕ). eqb n 0) c.reserved.ensures.is
    ∙ test_found g.M.Member c.args.members.now c.args.job c.in-Some.place c.index-members-place.result (λ member. eqb (g.M.Member.reserved_is member) 0)
    (sym c.seat_of.ensures ∙ c.in-Some.is) c.index-members-place.is

pub returns-in-None : goal.returns-in-None
returns-in-None g c =
    test_missing g.M.Member c.args.members.now c.args.job (λ member. eqb (g.M.Member.reserved_is member) 0) (sym c.seat_of.ensures ∙ c.in-None.is)
