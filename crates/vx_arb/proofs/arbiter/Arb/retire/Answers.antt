use Rattle.std.proofs.Common.{◌++◌, [], ◌∷◌, ℕ, ◌∙◌, ap, arith, refl}
use Rattle.vx_arb.specs.declared.entries.Entry.TheVariants.{Retire}
use Rattle.vx_arb.proofs.Turns.{share_fits, retired_kept}
use Rattle.vx_arb.proofs.Aborts.{stands_gone}
use Rattle.vx_arb.proofs.arbiter.Arb.retire.Goals as goal

pub join-requires : goal.join-requires
join-requires g c =
    share_fits _ c.args.self.now c.args.job c.args.share _ c.self.view_is c.self.invariant (omega (arith, c.requires.whole))

pub invariant_of-self : goal.invariant_of-self
invariant_of-self g c =
    retired_kept _ c.args.self.now c.args.job c.args.share _ c.join.new.self _ c.push_reserved.new.self.items c.take_out.new.live.items
    c.self.view_is c.self.invariant c.requires.live c.requires.whole c.requires.quiet
    c.join.ensures
    (c.push_reserved.ensures.items ∙ ap (λ (n : ℕ). c.self.inside.log.items ++ Retire c.args.job n ∷ []) c.amount-amount.ensures.is)
    c.take_out.ensures c.push_reserved.ensures.capacity

pub returns-clause-rule : goal.returns-clause-rule
returns-clause-rule g c = (invariant_of-self g c).rule

pub returns-clause-stands : goal.returns-clause-stands
returns-clause-stands g c = stands_gone _ c.args.self.now _ c.args.job c.self.view_is c.requires.live c.take_out.ensures refl
