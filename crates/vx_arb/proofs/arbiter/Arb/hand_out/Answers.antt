use Rattle.std.proofs.Common.{◌≤◌, ◌+◌, ◌^◌, refl, arith}
use Rattle.vx_arb.specs.Rows.{capacity_at}
use Rattle.vx_arb.proofs.Turns.{grant_fits, given_kept}
use Rattle.vx_arb.proofs.arbiter.Arb.hand_out.Goals as goal

pub overflow_add-capacity : goal.overflow_add-capacity
overflow_add-capacity g c =
    let small : capacity_at c.self.inside.live.items c.args.job + c.args.amount ≤ 2 ^ 33 =
    grant_fits _ c.args.self.now c.args.job c.args.amount _ c.self.view_is c.self.invariant c.requires.free in
    rw (c.capacity_in.ensures, c.deref.ensures.value) (omega (arith, small))

pub invariant_of-self : goal.invariant_of-self
invariant_of-self g c =
    given_kept _ c.args.self.now c.args.job c.args.amount _ c.split-share.new.self (c.capacity_in.result + c.args.amount) _ c.push_reserved.new.self.items c.set_capacity.new.live.items
    c.self.view_is c.self.invariant c.requires.there c.requires.free c.requires.within c.requires.seat
    c.split-share.ensures.left c.push_reserved.ensures.items c.set_capacity.ensures
    (rw (c.capacity_in.ensures, c.deref.ensures.value) refl)
    c.push_reserved.ensures.capacity

pub returns-clause-rule : goal.returns-clause-rule
returns-clause-rule g c = (invariant_of-self g c).rule
