use Rattle.std.proofs.Common.{sym, ◌∙◌, arith}
use Rattle.vx_world.proofs.Changes.{seated, seated_row}
use Rattle.vx_world.proofs.Retiring.{retire_bare, retire_made, retire_keeps}
use Rattle.vx_world.proofs.running.World.retire.Goals as goal

pub lower-share-requires : goal.lower-share-requires
lower-share-requires g c =
    let bare = retire_bare g.M.Member _ c.args.self.now c.self.view_is c.args.job c.seat_in-place.result c.index_mut-member.result.now c.requires
    (seated g.M.Member c.self.inside.members.items c.deref.result.now c.args.job c.seat_in-place.result c.index_mut-member.result.now c.deref.ensures.value c.seat_in-place.ensures.place c.index_mut-member.ensures.value) in
    omega (arith, bare, c.capacity.ensures.is, c.capacity.ensures.rule.rest)

pub retire-requires-clause-whole : goal.retire-requires-clause-whole
retire-requires-clause-whole g c =
    c.lower-share.ensures.share ∙ c.capacity.ensures.is
    ∙ sym (seated_row g.M.Member _ c.args.job c.seat_in-place.result c.index_mut-member.result.now c.self.invariant
    (seated g.M.Member c.self.inside.members.items c.deref.result.now c.args.job c.seat_in-place.result c.index_mut-member.result.now c.deref.ensures.value c.seat_in-place.ensures.place c.index_mut-member.ensures.value))

pub invariant_of-self : goal.invariant_of-self
invariant_of-self g c =
    retire_keeps g.M.Member _ c.args.self.now c.self.view_is c.args.job c.seat_in-place.result c.capacity.result c.index_mut-member.result.now c.lower-share.new.self c.retire.new.self c.self.invariant c.requires
    (seated g.M.Member c.self.inside.members.items c.deref.result.now c.args.job c.seat_in-place.result c.index_mut-member.result.now c.deref.ensures.value c.seat_in-place.ensures.place c.index_mut-member.ensures.value)
    c.capacity.ensures.is c.lower-share.ensures.job c.lower-share.ensures.capacity c.lower-share.ensures.rule c.retire.ensures.books c.retire.ensures.stands c.retire.ensures.rule

pub returns-clause-step : goal.returns-clause-step
returns-clause-step g c =
    retire_made g.M.Member _ c.args.self.now c.self.view_is c.args.job c.seat_in-place.result c.capacity.result c.index_mut-member.result.now c.lower-share.new.self c.retire.new.self c.requires
    (seated g.M.Member c.self.inside.members.items c.deref.result.now c.args.job c.seat_in-place.result c.index_mut-member.result.now c.deref.ensures.value c.seat_in-place.ensures.place c.index_mut-member.ensures.value)
    c.capacity.ensures.is c.lower-share.ensures.lower
    (record { same = c.lower-share.ensures.job; over = λ ended. c.lower-share.ensures.ended ∙ ended }) c.retire.ensures.books

pub returns-clause-rule : goal.returns-clause-rule
returns-clause-rule g c = invariant_of-self g c
