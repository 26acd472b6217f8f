use Rattle.vx_world.proofs.Changes.{seated}
use Rattle.vx_world.proofs.Stepping.{step_keeps, want_made, want_going}
use Rattle.vx_world.proofs.running.World.want.Goals as goal

pub want-requires : goal.want-requires
want-requires g c =
    want_going g.M.Member _ c.args.self.now c.self.view_is c.args.job c.seat_in-place.result c.index_mut.result.now c.requires
    (seated g.M.Member c.self.inside.members.items c.deref.result.now c.args.job c.seat_in-place.result c.index_mut.result.now c.deref.ensures.value c.seat_in-place.ensures.place c.index_mut.ensures.value)

pub invariant_of-self : goal.invariant_of-self
invariant_of-self g c =
    step_keeps g.M.Member _ c.args.job c.seat_in-place.result c.index_mut.result.now c.want.new.self c.self.invariant
    (seated g.M.Member c.self.inside.members.items c.deref.result.now c.args.job c.seat_in-place.result c.index_mut.result.now c.deref.ensures.value c.seat_in-place.ensures.place c.index_mut.ensures.value)
    c.want.ensures.job c.want.ensures.capacity c.want.ensures.rule

pub returns-clause-step : goal.returns-clause-step
returns-clause-step g c =
    want_made g.M.Member _ c.args.self.now c.self.view_is c.args.job c.seat_in-place.result c.index_mut.result.now c.want.new.self c.requires
    (seated g.M.Member c.self.inside.members.items c.deref.result.now c.args.job c.seat_in-place.result c.index_mut.result.now c.deref.ensures.value c.seat_in-place.ensures.place c.index_mut.ensures.value)
    c.want.ensures.want (record { same = c.want.ensures.job; over = λ _. c.want.ensures.ended })

pub returns-clause-rule : goal.returns-clause-rule
returns-clause-rule g c = invariant_of-self g c
