use Rattle.std.proofs.Common.{sym, ◌∙◌}
use Rattle.vx_world.proofs.Changes.{seated}
use Rattle.vx_world.proofs.Shrinking.{shrink_tied, shrink_other, shrink_made, shrink_keeps}
use Rattle.vx_world.proofs.running.World.shrink.Goals as goal

pub shrink-freed-requires-clause-tied : goal.shrink-freed-requires-clause-tied
shrink-freed-requires-clause-tied g c =
    shrink_tied g.M.Member _ c.args.self.now c.self.view_is c.args.job c.seat_in-place.result c.index_mut.result.now c.self.invariant c.requires
    (seated g.M.Member c.self.inside.members.items c.deref.result.now c.args.job c.seat_in-place.result c.index_mut.result.now c.deref.ensures.value c.seat_in-place.ensures.place c.index_mut.ensures.value)

pub shrink-freed-requires-clause-other : goal.shrink-freed-requires-clause-other
shrink-freed-requires-clause-other g c =
    shrink_other g.M.Member _ c.args.self.now c.self.view_is c.args.job c.seat_in-place.result c.index_mut.result.now c.unwrap-request.result c.requires
    (seated g.M.Member c.self.inside.members.items c.deref.result.now c.args.job c.seat_in-place.result c.index_mut.result.now c.deref.ensures.value c.seat_in-place.ensures.place c.index_mut.ensures.value) (sym c.take.ensures.value ∙ c.unwrap-request.ensures)

pub invariant_of-self : goal.invariant_of-self
invariant_of-self g c =
    shrink_keeps g.M.Member _ c.args.self.now c.self.view_is c.args.job c.seat_in-place.result c.index_mut.result.now c.shrink-freed.new.member c.shrink-freed.new.request c.shrink-freed.result c.shrink-freed.new.self c.self.invariant c.requires
    (seated g.M.Member c.self.inside.members.items c.deref.result.now c.args.job c.seat_in-place.result c.index_mut.result.now c.deref.ensures.value c.seat_in-place.ensures.place c.index_mut.ensures.value)
    c.shrink-freed.ensures.books c.shrink-freed.ensures.stands c.shrink-freed.ensures.job c.shrink-freed.ensures.tied c.shrink-freed.ensures.within c.shrink-freed.ensures.rule

pub returns-clause-step : goal.returns-clause-step
returns-clause-step g c =
    shrink_made g.M.Member _ c.args.self.now c.self.view_is c.args.job c.seat_in-place.result c.index_mut.result.now c.shrink-freed.new.member c.unwrap-request.result c.shrink-freed.new.request c.shrink-freed.result c.shrink-freed.new.self c.requires
    (seated g.M.Member c.self.inside.members.items c.deref.result.now c.args.job c.seat_in-place.result c.index_mut.result.now c.deref.ensures.value c.seat_in-place.ensures.place c.index_mut.ensures.value) (sym c.take.ensures.value ∙ c.unwrap-request.ensures)
    c.shrink-freed.ensures.moved c.shrink-freed.ensures.books c.shrink-freed.ensures.request c.shrink-freed.ensures.member
    (record { same = c.shrink-freed.ensures.job; over = λ ended. c.shrink-freed.ensures.ended ∙ ended })

pub returns-clause-rule : goal.returns-clause-rule
returns-clause-rule g c = invariant_of-self g c
