use Rattle.std.proofs.Common.{◌-◌, refl}
use Rattle.vx_arb.proofs.Turns.{share_fits, taken_kept}
use Rattle.vx_arb.proofs.arbiter.Arb.write_back.Goals as goal

pub join-requires : goal.join-requires
join-requires g c = share_fits _ c.args.self.now c.args.job c.args.back _ c.self.view_is c.self.invariant c.requires.had

pub invariant_of-self : goal.invariant_of-self
invariant_of-self g c =
    taken_kept _ c.args.self.now c.args.job c.args.back c.args.entry c.args.standing _ c.join.new.self (c.capacity_in.result - c.amount.result) _ c.push_reserved.new.self.items c.set_capacity.new.live.items
    c.self.view_is c.self.invariant c.requires
    c.join.ensures c.push_reserved.ensures.items c.set_capacity.ensures
    (rw (c.capacity_in.ensures, c.deref.ensures.value, c.amount.ensures.is) refl)
    c.push_reserved.ensures.capacity

pub returns-clause-rule : goal.returns-clause-rule
returns-clause-rule g c = (invariant_of-self g c).rule
