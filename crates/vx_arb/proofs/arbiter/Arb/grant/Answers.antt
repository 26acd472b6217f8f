use Rattle.std.proofs.Common.{◌≡◌, ◌∙◌, ◌+◌, ap, sym, arith}
use Rattle.vx_arb.specs.Books.{Books, IsBooks}
use Rattle.vx_arb.specs.Rows.{IsTied}
use Rattle.vx_arb.proofs.RowLemmas.{capacity_in_sum}
use Rattle.vx_arb.proofs.Aborts.{rule_now, tied_given}
use Rattle.vx_arb.proofs.arbiter.Arb.grant.Goals as goal

pub raise-requires : goal.raise-requires
raise-requires g c =
    let b : IsBooks c.args.self.now = rule_now _ c.args.self.now _ c.self.view_is c.self.invariant in
    let free : c.amount-free.result ≡ c.args.self.now.free = c.amount-free.ensures.is ∙ ap (λ (b : Books). b.free) c.self.view_is in
    omega (arith, b.adds_up, b.bounded, capacity_in_sum c.args.self.now.live (g.M.Member.job_is c.args.member.now), c.requires.tied.same, c.hand_out-share.ensures.share, c.if-need-free.false, free)

pub returns-clause-tied : goal.returns-clause-tied
returns-clause-tied g c =
    let own : c.job.result ≡ g.M.Member.job_is c.args.member.now = c.job.ensures ∙ sym c.requires.requester in
    let tied : IsTied c.args.self.now.live c.job.result (g.M.Member.capacity_is c.args.member.now) = rw own c.requires.tied in
    let more : g.M.Member.capacity_is c.raise.new.self ≡ g.M.Member.capacity_is c.args.member.now + c.need-need.result = omega (arith, c.raise.ensures.capacity, c.hand_out-share.ensures.share) in
    rw c.hand_out-share.ensures.books
    (tied_given c.args.self.now.live c.job.result _ (g.M.Member.capacity_is c.args.member.now) c.need-need.result _ tied (c.raise.ensures.job ∙ sym own) more)
