use Rattle.std.proofs.Common.{◌≡◌, ◌∙◌, ◌-◌, sym, arith}
use Rattle.vx_arb.specs.Rows.{IsTied}
use Rattle.vx_arb.proofs.Aborts.{tied_taking, stands_taking, shrink_nothing}
use Rattle.vx_arb.proofs.arbiter.Arb.shrink.Goals as goal

pub returns-clause-stands : goal.returns-clause-stands
returns-clause-stands g c =
    rw (c.take_back.ensures.books, c.spend.ensures)
    (stands_taking c.args.self.now c.args.request.now c.job-job.result c.lower-share.result c.entry_of_shrink.result c.requires.stands)

pub returns-clause-tied : goal.returns-clause-tied
returns-clause-tied g c =
    let tied : IsTied c.args.self.now.live c.job-job.result (g.M.Member.capacity_is c.args.member.now) = rw c.job-job.ensures.is c.requires.tied in
    let less : g.M.Member.capacity_is c.lower-share.new.self ≡ g.M.Member.capacity_is c.args.member.now - c.lower-share.result = omega (arith, c.lower-share.ensures.capacity, c.lower-share.ensures.share) in
    rw c.take_back.ensures.books
    (tied_taking c.args.self.now c.job-job.result _ (g.M.Member.capacity_is c.args.member.now) c.lower-share.result _ c.entry_of_shrink.result tied
    (shrink_nothing c.job-job.result c.min-moved.result c.lower-share.result c.entry_of_shrink.result c.entry_of_shrink.ensures c.lower-share.ensures.share)
    (c.lower-share.ensures.job ∙ sym c.job-job.ensures.is) less)
