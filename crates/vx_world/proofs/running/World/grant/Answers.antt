use Rattle.std.proofs.Common.{sym, ◌∙◌, subst}
use Rattle.vx_world.proofs.Changes.{Seated, seated, seated_job}
use Rattle.vx_world.proofs.Ending.{made_ok, grant_tied, grant_made, grant_keeps}
use Rattle.vx_world.proofs.running.World.grant.Goals as goal

pub grant-granted-requires-clause-tied : goal.grant-granted-requires-clause-tied
grant-granted-requires-clause-tied g c =
    grant_tied g.M.Member _ c.args.self.now c.self.view_is c.unwrap-request.result c.seat_in-place.result c.index_mut.result.now c.self.invariant c.requires (sym c.take.ensures.value ∙ c.unwrap-request.ensures)
    (subst (λ n. Seated g.M.Member c.self.inside.members.items n c.seat_in-place.result c.index_mut.result.now) c.job.ensures (seated g.M.Member c.self.inside.members.items c.deref.result.now c.job.result c.seat_in-place.result c.index_mut.result.now c.deref.ensures.value c.seat_in-place.ensures.place c.index_mut.ensures.value))

pub grant-granted-requires-clause-requester : goal.grant-granted-requires-clause-requester
grant-granted-requires-clause-requester g c =
    seated_job g.M.Member c.self.inside.members.items c.unwrap-request.result.job c.seat_in-place.result c.index_mut.result.now
    (subst (λ n. Seated g.M.Member c.self.inside.members.items n c.seat_in-place.result c.index_mut.result.now) c.job.ensures (seated g.M.Member c.self.inside.members.items c.deref.result.now c.job.result c.seat_in-place.result c.index_mut.result.now c.deref.ensures.value c.seat_in-place.ensures.place c.index_mut.ensures.value))

pub invariant_of-self : goal.invariant_of-self
invariant_of-self g c =
    rw c.take.ensures.after (grant_keeps g.M.Member _ c.args.self.now c.self.view_is c.unwrap-request.result c.seat_in-place.result c.index_mut.result.now c.grant-granted.new.member c.grant-granted.new.self c.self.invariant c.requires (sym c.take.ensures.value ∙ c.unwrap-request.ensures)
    (subst (λ n. Seated g.M.Member c.self.inside.members.items n c.seat_in-place.result c.index_mut.result.now) c.job.ensures (seated g.M.Member c.self.inside.members.items c.deref.result.now c.job.result c.seat_in-place.result c.index_mut.result.now c.deref.ensures.value c.seat_in-place.ensures.place c.index_mut.ensures.value))
    (made_ok c.grant-granted.result _ (sym c.is_ok.ensures.value ∙ c.if-prove.false) c.grant-granted.ensures.books) c.grant-granted.ensures.job c.grant-granted.ensures.tied
    (made_ok c.grant-granted.result _ (sym c.is_ok.ensures.value ∙ c.if-prove.false) c.grant-granted.ensures.within) c.grant-granted.ensures.rule)

pub returns-clause-step : goal.returns-clause-step
returns-clause-step g c =
    rw c.take.ensures.after (grant_made g.M.Member _ c.args.self.now c.self.view_is c.unwrap-request.result c.seat_in-place.result c.index_mut.result.now c.grant-granted.new.member c.grant-granted.new.self c.requires
    (subst (λ n. Seated g.M.Member c.self.inside.members.items n c.seat_in-place.result c.index_mut.result.now) c.job.ensures (seated g.M.Member c.self.inside.members.items c.deref.result.now c.job.result c.seat_in-place.result c.index_mut.result.now c.deref.ensures.value c.seat_in-place.ensures.place c.index_mut.ensures.value)) (sym c.take.ensures.value ∙ c.unwrap-request.ensures)
    (made_ok c.grant-granted.result _ (sym c.is_ok.ensures.value ∙ c.if-prove.false) c.grant-granted.ensures.books)
    (made_ok c.grant-granted.result _ (sym c.is_ok.ensures.value ∙ c.if-prove.false) c.grant-granted.ensures.member)
    (record { same = c.grant-granted.ensures.job; over = λ ended. c.grant-granted.ensures.ended ∙ ended }))

pub returns-clause-rule : goal.returns-clause-rule
returns-clause-rule g c = invariant_of-self g c
