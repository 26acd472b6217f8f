use Rattle.std.proofs.Common.{sym, ◌∙◌, refl}
use Rattle.vx_world.proofs.Changes.{seated}
use Rattle.vx_world.proofs.Reclaiming.{reclaim_tied, reclaim_made, reclaim_keeps}
use Rattle.vx_world.proofs.running.World.reclaim.Goals as goal

pub reclaim-freed-requires-clause-tied : goal.reclaim-freed-requires-clause-tied
reclaim-freed-requires-clause-tied g c =
    reclaim_tied g.M.Member _ c.args.self.now c.self.view_is c.args.job c.seat_in-place.result c.index_mut.result.now c.self.invariant c.requires
    (seated g.M.Member c.self.inside.members.items c.deref.result.now c.args.job c.seat_in-place.result c.index_mut.result.now c.deref.ensures.value c.seat_in-place.ensures.place c.index_mut.ensures.value)

pub invariant_of-self : goal.invariant_of-self
invariant_of-self g c =
    reclaim_keeps g.M.Member _ c.args.self.now c.self.view_is c.args.job c.seat_in-place.result c.index_mut.result.now c.reclaim-freed.new.member c.reclaim-freed.new.request c.reclaim-freed.result _ c.reclaim-freed.new.self c.self.invariant c.requires
    (seated g.M.Member c.self.inside.members.items c.deref.result.now c.args.job c.seat_in-place.result c.index_mut.result.now c.deref.ensures.value c.seat_in-place.ensures.place c.index_mut.ensures.value)
    c.reclaim-freed.ensures.books c.reclaim-freed.ensures.stands c.reclaim-freed.ensures.job c.reclaim-freed.ensures.tied c.reclaim-freed.ensures.within c.reclaim-freed.ensures.rule

pub returns-clause-step : goal.returns-clause-step
returns-clause-step g c =
    reclaim_made g.M.Member _ c.args.self.now c.self.view_is c.args.job c.seat_in-place.result c.index_mut.result.now c.reclaim-freed.new.member c.unwrap-request.result c.reclaim-freed.new.request c.reclaim-freed.result _ c.reclaim-freed.new.self c.requires
    (seated g.M.Member c.self.inside.members.items c.deref.result.now c.args.job c.seat_in-place.result c.index_mut.result.now c.deref.ensures.value c.seat_in-place.ensures.place c.index_mut.ensures.value) (sym c.take.ensures.value ∙ c.unwrap-request.ensures)
    refl c.reclaim-freed.ensures.books c.reclaim-freed.ensures.request c.reclaim-freed.ensures.member
    (record { same = c.reclaim-freed.ensures.job; over = c.reclaim-freed.ensures.ended })

pub returns-clause-rule : goal.returns-clause-rule
returns-clause-rule g c = invariant_of-self g c
