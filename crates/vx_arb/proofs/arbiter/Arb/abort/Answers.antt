use Rattle.std.proofs.Common.{◌≡◌, ◌∙◌, ◌-◌, ap, sym, subst, refl, arith}
use Rattle.vx_arb.specs.Books.{Books}
use Rattle.vx_arb.specs.Unmet.{AreSingle}
use Rattle.vx_arb.specs.Rows.{IsTied, capacity_at}
use Rattle.vx_arb.proofs.Aborts.{rule_now, abort_takes, tied_taken}
use Rattle.vx_arb.proofs.arbiter.Arb.abort.Goals as goal

pub write_back-requires : goal.write_back-requires
write_back-requires g c =
    let free : c.amount.result ≡ c.args.self.now.free = c.amount.ensures.is ∙ ap (λ (b : Books). b.free) c.self.view_is in
    abort_takes c.args.self.now c.args.request c.job-job.result c.abort-share.result c.amount-2.result _ c.into_looks.result
    (rule_now _ c.args.self.now _ c.self.view_is c.self.invariant) c.requires.stands
    (rw c.job-job.ensures.is c.requires.tied.there)
    (c.abort-share.ensures.share ∙ sym c.requires.tied.same ∙ ap (λ n. capacity_at c.args.self.now.live n) (sym c.job-job.ensures.is))
    c.amount-2.ensures.is
    (rw (c.number.ensures, c.job.ensures, c.cause.ensures, c.need.ensures, free, c.looks.ensures.is) refl)
    c.into_looks.ensures
    (subst AreSingle c.looks.ensures.is c.looks.ensures.single)
    (rw c.job-job.ensures.is c.requires.unmet)

pub returns-clause-tied : goal.returns-clause-tied
returns-clause-tied g c =
    let tied : IsTied c.args.self.now.live c.job-job.result (g.M.Member.capacity_is c.args.victim.now) = rw c.job-job.ensures.is c.requires.tied in
    let less : g.M.Member.capacity_is c.abort-share.new.self ≡ g.M.Member.capacity_is c.args.victim.now - c.abort-share.result = omega (arith, c.abort-share.ensures.capacity, c.abort-share.ensures.share) in
    rw c.write_back.ensures.books
    (tied_taken c.args.self.now.live c.job-job.result _ (g.M.Member.capacity_is c.args.victim.now) c.abort-share.result _ tied (c.abort-share.ensures.job ∙ sym c.job-job.ensures.is) less)
