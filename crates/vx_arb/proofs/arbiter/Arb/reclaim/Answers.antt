use Rattle.std.proofs.Common.{◌≡◌, ℕ, ◌∙◌, ◌+◌, ◌-◌, ap, sym, subst, refl, arith}
use Rattle.vx_arb.specs.Rows.{IsTied}
use Rattle.vx_arb.specs.Books.{moved_of}
use Rattle.vx_arb.proofs.Aborts.{tied_taking, stands_taking, reclaim_nothing, unused_after}
use Rattle.vx_arb.proofs.arbiter.Arb.reclaim.Goals as goal

pub returns-clause-stands : goal.returns-clause-stands
returns-clause-stands g c =
    rw (c.take_back.ensures.books, c.spend.ensures)
    (stands_taking c.args.self.now c.args.request.now c.job-job.result c.lower-share.result c.entry_of_reclaim.result c.requires.stands)

pub returns-clause-tied : goal.returns-clause-tied
returns-clause-tied g c =
    let tied : IsTied c.args.self.now.live c.job-job.result (g.M.Member.capacity_is c.args.member.now) = rw c.job-job.ensures.is c.requires.tied in
    let less : g.M.Member.capacity_is c.lower-share.new.self ≡ g.M.Member.capacity_is c.args.member.now - c.lower-share.result = omega (arith, c.lower-share.ensures.capacity, c.lower-share.ensures.share, c.reclaim-freed.ensures.capacity) in
    rw c.take_back.ensures.books
    (tied_taking c.args.self.now c.job-job.result _ (g.M.Member.capacity_is c.args.member.now) c.lower-share.result _ c.entry_of_reclaim.result tied
    (reclaim_nothing c.job-job.result c.reclaim-freed.result c.moved-moved.result c.lower-share.result c.entry_of_reclaim.result c.entry_of_reclaim.ensures c.lower-share.ensures.share)
    (c.lower-share.ensures.job ∙ c.reclaim-freed.ensures.job ∙ sym c.job-job.ensures.is) less)

pub returns-clause-books : goal.returns-clause-books
returns-clause-books g c =
    let after : c.unused.result ≡ g.M.Member.unused_is c.args.member.now + c.reclaim-freed.result =
    c.unused.ensures.is ∙ unused_after _ _ _ c.reclaim-freed.result _ _ _ c.job-job.ensures.rule c.reclaim-freed.ensures.rule c.reclaim-freed.ensures.capacity c.reclaim-freed.ensures.freed in
    let moved : c.moved-moved.result ≡ moved_of c.args.self.now c.args.request.now (g.M.Member.job_is c.args.member.now) (g.M.Member.unused_is c.args.member.now + c.reclaim-freed.result) =
    c.moved-moved.ensures ∙ ap (λ (n : ℕ). moved_of c.args.self.now c.args.request.now n c.unused.result) c.job-job.ensures.is ∙ ap (λ (n : ℕ). moved_of c.args.self.now c.args.request.now (g.M.Member.job_is c.args.member.now) n) after in
    rw (c.take_back.ensures.books, c.entry_of_reclaim.ensures, c.lower-share.ensures.share, c.job-job.ensures.is, moved) refl

pub returns-clause-member : goal.returns-clause-member
returns-clause-member g c =
    let after : c.unused.result ≡ g.M.Member.unused_is c.args.member.now + c.reclaim-freed.result =
    c.unused.ensures.is ∙ unused_after _ _ _ c.reclaim-freed.result _ _ _ c.job-job.ensures.rule c.reclaim-freed.ensures.rule c.reclaim-freed.ensures.capacity c.reclaim-freed.ensures.freed in
    let moved : c.moved-moved.result ≡ moved_of c.args.self.now c.args.request.now (g.M.Member.job_is c.args.member.now) (g.M.Member.unused_is c.args.member.now + c.reclaim-freed.result) =
    c.moved-moved.ensures ∙ ap (λ (n : ℕ). moved_of c.args.self.now c.args.request.now n c.unused.result) c.job-job.ensures.is ∙ ap (λ (n : ℕ). moved_of c.args.self.now c.args.request.now (g.M.Member.job_is c.args.member.now) n) after in
    record {
      between = c.reclaim-freed.new.self;
      reclaimed = subst (λ (n : ℕ). g.M.Member.reclaims c.args.member.now n c.reclaim-freed.result c.reclaim-freed.new.self) c.wanted.ensures c.reclaim-freed.ensures.reclaim;
      lowered = subst (λ (n : ℕ). g.M.Member.lowers c.reclaim-freed.new.self n c.lower-share.new.self) moved c.lower-share.ensures.lower;
    }
