use Rattle.std.proofs.Common.{arith, sym, ◌∙◌}
use Rattle.vx_world.proofs.Finding.{seat_more, seat_found, seat_none}
use Rattle.vx_world.proofs.seats.seat_of.Goals as goal

pub returns-then-job : goal.returns-then-job
returns-then-job g c =
    seat_found g.M.Member c.args.members.now c.args.job c.loop-place.place c.index-members-place.result c.index-members-place.is
    (sym c.job.ensures.is ∙ c.if-job.true) c.loop-place-test.true c.loop-place.invariant

pub loop-place-preserved : goal.loop-place-preserved
loop-place-preserved g c =
    seat_more g.M.Member c.args.members.now c.args.job c.loop-place.place c.index-members-place.result c.index-members-place.is
    (λ has. c.if-job.false (c.job.ensures.is ∙ has)) c.loop-place-test.true c.loop-place.invariant

pub returns : goal.returns
returns g c = seat_none g.M.Member c.args.members.now c.args.job c.loop-place.place (omega (arith, c.loop-place-test.false)) c.loop-place.invariant
