use Rattle.std.proofs.Common.{◌∙◌, ap}
use Rattle.vx_arb.specs.Books.{Books}
use Rattle.vx_arb.specs.Rows.{one_less}
use Rattle.vx_arb.proofs.Aborts.{rule_now, taking_may}
use Rattle.vx_arb.proofs.arbiter.Arb.take_back.Goals as goal

pub write_back-requires : goal.write_back-requires
write_back-requires g c =
    taking_may c.args.self.now c.args.job c.args.back c.in-Some.entry c.args.entry c.with_one_less-standing.result
    c.in-Some.is
    (c.with_one_less-standing.ensures ∙ ap (λ (b : Books). one_less b.standing) c.self.view_is)
    (rule_now _ c.args.self.now _ c.self.view_is c.self.invariant)
    c.requires.going c.requires.there c.requires.had c.requires.other c.requires.entry c.requires.just
