use Rattle.std.proofs.Common.{sym, ◌∙◌}
use Rattle.vx_world.proofs.Changes.{seated}
use Rattle.vx_world.proofs.Ending.{abort_tied, abort_going, abort_unmet, abort_made, abort_keeps}
use Rattle.vx_world.proofs.running.World.abort.Goals as goal

pub abort-requires-clause-tied : goal.abort-requires-clause-tied
abort-requires-clause-tied g c =
    abort_tied g.M.Member _ c.args.self.now c.self.view_is c.args.job c.seat_in-place.result c.index_mut.result.now c.unwrap-request.result c.self.invariant c.requires (sym c.take.ensures.value ∙ c.unwrap-request.ensures)
    (seated g.M.Member c.self.inside.members.items c.deref.result.now c.args.job c.seat_in-place.result c.index_mut.result.now c.deref.ensures.value c.seat_in-place.ensures.place c.index_mut.ensures.value)

pub abort-requires-clause-going : goal.abort-requires-clause-going
abort-requires-clause-going g c =
    abort_going g.M.Member _ c.args.self.now c.self.view_is c.args.job c.seat_in-place.result c.index_mut.result.now c.unwrap-request.result c.requires (sym c.take.ensures.value ∙ c.unwrap-request.ensures)
    (seated g.M.Member c.self.inside.members.items c.deref.result.now c.args.job c.seat_in-place.result c.index_mut.result.now c.deref.ensures.value c.seat_in-place.ensures.place c.index_mut.ensures.value)

pub abort-requires-clause-unmet : goal.abort-requires-clause-unmet
abort-requires-clause-unmet g c =
    abort_unmet g.M.Member _ c.args.self.now c.self.view_is c.args.job c.seat_in-place.result c.index_mut.result.now c.unwrap-request.result c.requires (sym c.take.ensures.value ∙ c.unwrap-request.ensures)
    (seated g.M.Member c.self.inside.members.items c.deref.result.now c.args.job c.seat_in-place.result c.index_mut.result.now c.deref.ensures.value c.seat_in-place.ensures.place c.index_mut.ensures.value)

pub invariant_of-self : goal.invariant_of-self
invariant_of-self g c =
    rw c.take.ensures.after (abort_keeps g.M.Member _ c.args.self.now c.self.view_is c.args.job c.seat_in-place.result c.index_mut.result.now c.abort.new.victim c.unwrap-request.result c.abort.new.self c.self.invariant c.requires (sym c.take.ensures.value ∙ c.unwrap-request.ensures)
    (seated g.M.Member c.self.inside.members.items c.deref.result.now c.args.job c.seat_in-place.result c.index_mut.result.now c.deref.ensures.value c.seat_in-place.ensures.place c.index_mut.ensures.value)
    c.abort.ensures.books c.abort.ensures.job c.abort.ensures.tied c.abort.ensures.within c.abort.ensures.rule)

pub returns-clause-step : goal.returns-clause-step
returns-clause-step g c =
    rw c.take.ensures.after (abort_made g.M.Member _ c.args.self.now c.self.view_is c.args.job c.seat_in-place.result c.index_mut.result.now c.abort.new.victim c.unwrap-request.result c.abort.result c.abort.new.self c.requires
    (seated g.M.Member c.self.inside.members.items c.deref.result.now c.args.job c.seat_in-place.result c.index_mut.result.now c.deref.ensures.value c.seat_in-place.ensures.place c.index_mut.ensures.value) (sym c.take.ensures.value ∙ c.unwrap-request.ensures)
    c.abort.ensures.note c.abort.ensures.books c.abort.ensures.member
    (record { same = c.abort.ensures.job; over = λ _. c.abort.ensures.ended }))

pub returns-clause-rule : goal.returns-clause-rule
returns-clause-rule g c = invariant_of-self g c
