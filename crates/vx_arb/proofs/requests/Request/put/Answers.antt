use Rattle.std.proofs.Common.{◌≡◌, ◌<◌, Some, None, sym, ◌∙◌, eqb, position, arith}
use Rattle.vx_arb.specs.declared.entries.Look.{Look}
use Rattle.vx_arb.proofs.LookLemmas.{look_missing, kept_found, kept_missing, after_found, after_missing, room_left}
use Rattle.vx_arb.proofs.requests.Request.put.Goals as goal

pub invariant_of-self : goal.invariant_of-self
invariant_of-self c =
    let at : position (λ (look : Look). eqb look.job c.args.look.job) c.self.inside.looks.items ≡ Some c.in-Some.place =
    rw (← c.deref.ensures.value) (sym c.seat_of.ensures ∙ c.in-Some.is) in
    kept_found c.self.inside.looks.items c.self.inside.room _ c.args.look c.in-Some.place c.self.invariant at

pub push_reserved-requires : goal.push_reserved-requires
push_reserved-requires c =
    let at : position (λ (look : Look). eqb look.job c.args.look.job) c.self.inside.looks.items ≡ None =
    rw (← c.deref.ensures.value) (sym c.seat_of.ensures ∙ c.in-None.is) in
    let some : 0 < c.self.inside.room = room_left _ c.args.self.now c.args.look c.self.view_is c.requires at in
    omega (arith, some, c.self.invariant.fits)

pub overflow_sub-self : goal.overflow_sub-self
overflow_sub-self c =
    let at : position (λ (look : Look). eqb look.job c.args.look.job) c.self.inside.looks.items ≡ None =
    rw (← c.deref.ensures.value) (sym c.seat_of.ensures ∙ c.in-None.is) in
    let some : 0 < c.self.inside.room = room_left _ c.args.self.now c.args.look c.self.view_is c.requires at in
    omega (arith, some)

pub invariant_of-self-in-None : goal.invariant_of-self-in-None
invariant_of-self-in-None c =
    let at : position (λ (look : Look). eqb look.job c.args.look.job) c.self.inside.looks.items ≡ None =
    rw (← c.deref.ensures.value) (sym c.seat_of.ensures ∙ c.in-None.is) in
    let some : 0 < c.self.inside.room = room_left _ c.args.self.now c.args.look c.self.view_is c.requires at in
    rw (c.push_reserved.ensures.items, c.push_reserved.ensures.capacity)
    (kept_missing c.self.inside.looks.items c.self.inside.room _ c.args.look c.self.invariant (look_missing c.self.inside.looks.items c.args.look.job at) some)

pub returns-in-Some : goal.returns-in-Some
returns-in-Some c =
    let at : position (λ (look : Look). eqb look.job c.args.look.job) c.self.inside.looks.items ≡ Some c.in-Some.place =
    rw (← c.deref.ensures.value) (sym c.seat_of.ensures ∙ c.in-Some.is) in
    after_found _ c.args.self.now c.args.look c.in-Some.place c.self.view_is at

pub returns-in-None : goal.returns-in-None
returns-in-None c =
    let at : position (λ (look : Look). eqb look.job c.args.look.job) c.self.inside.looks.items ≡ None =
    rw (← c.deref.ensures.value) (sym c.seat_of.ensures ∙ c.in-None.is) in
    rw c.push_reserved.ensures.items (after_missing _ c.args.self.now c.args.look c.self.view_is at)
