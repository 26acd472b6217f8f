use Rattle.vx_world.proofs.Changes.{seated}
use Rattle.vx_world.proofs.Stepping.{step_keeps, batch_made}
use Rattle.vx_world.proofs.running.World.batch.Goals as goal

pub invariant_of-self : goal.invariant_of-self
invariant_of-self g c =
    step_keeps g.M.Member _ c.args.job c.seat_in-place.result c.index_mut.result.now c.step.new.self c.self.invariant
    (seated g.M.Member c.self.inside.members.items c.deref.result.now c.args.job c.seat_in-place.result c.index_mut.result.now c.deref.ensures.value c.seat_in-place.ensures.place c.index_mut.ensures.value)
    c.step.ensures.job c.step.ensures.capacity c.step.ensures.rule

pub returns-clause-step : goal.returns-clause-step
returns-clause-step g c =
    batch_made g.M.Member _ c.args.self.now c.self.view_is c.args.job c.args.hint c.seat_in-place.result c.index_mut.result.now c.step.new.self c.step.result c.requires
    (seated g.M.Member c.self.inside.members.items c.deref.result.now c.args.job c.seat_in-place.result c.index_mut.result.now c.deref.ensures.value c.seat_in-place.ensures.place c.index_mut.ensures.value)
    (record { stepped = c.step.ensures.step; ended = c.step.ensures.ended; over = c.step.ensures.over }) c.step.ensures.job

pub returns-clause-rule : goal.returns-clause-rule
returns-clause-rule g c = invariant_of-self g c
