use Rattle.std.proofs.Common.{◌≡◌, ◌+◌, get_or, set, refl, sym, ap, ◌∙◌, subst, List, ℕ}
use Rattle.vx_arena.specs.Text.{ArenaModel}
use Rattle.vx_value.specs.Value.{owned}
use Rattle.vx_rows.specs.declared.fields.Extra.TheVariants as extra
use Rattle.vx_rows.specs.declared.fields.Extra.{Extra}
use Rattle.vx_rows.specs.Body.{all_stored, seen, FitsField}
use Rattle.vx_rows.specs.Layout.{field_at}
use Rattle.vx_rows.specs.Texts.{text_cost, blocks_of_value}
use Rattle.vx_rows.specs.Container.{ContainerModel, Changes, TakesBack, TakesValue, blocks_of_held, extras_in, held_at, live}
use Rattle.vx_rows.proofs.AccumulatorLemmas.{fits_value, old_kept, slot_changes, slot_container, slot_seen, takes_slot}
use Rattle.vx_rows.proofs.FieldLemmas.{slot_field}
use Rattle.vx_rows.proofs.RowLemmas.{live_parts, set_there}
use Rattle.vx_rows.proofs.ContainerLemmas.{kept_count, kept_seen, own_body}
use Rattle.vx_rows.proofs.ResultLemmas.{on_err}
use Rattle.std.proofs.lemmas.List.{get_or-drop}
use Rattle.vx_rows.proofs.container.RowContainer.set_slot.Goals as goal

pub returns-in_err-stored-clause-err : goal.returns-in_err-stored-clause-err
returns-in_err-stored-clause-err c =
    let s = c.self.inside in
    on_err c.from_residual.result (kept_seen s.arena c.store.new.arena s.columns s.layout s.records s.empty.items s.scratch.items (text_cost (owned c.args.value)) c.self.invariant c.in_err-stored.ensures.err s.records c.args.self.now.rows refl (ap (λ (m : ContainerModel). m.rows) c.self.view_is))

pub returns-in_err-stored-clause-back : goal.returns-in_err-stored-clause-back
returns-in_err-stored-clause-back c =
    let s = c.self.inside in
    on_err c.from_residual.result (subst (λ (a : ArenaModel). TakesBack a c.store.new.arena (text_cost (owned c.args.value))) (ap (λ (m : ContainerModel). m.arena) c.self.view_is) (kept_count s.arena c.store.new.arena s.columns s.layout s.records s.empty.items s.scratch.items (text_cost (owned c.args.value)) c.self.invariant c.in_err-stored.ensures.err))

pub give-requires : goal.give-requires
give-requires c =
    let s = c.self.inside in
    let row = live c.args.self.now c.args.row in
    let rows = ap (λ (m : ContainerModel). m.rows) c.self.view_is in
    let parts = live_parts s.arena s.columns s.layout s.records c.args.self.now.rows c.args.row row rows c.requires.live in
    let extras : get_or (extras_in s.columns s.layout) c.args.which (extra.Bytes 0) ≡ get_or c.args.self.now.extras c.args.which (extra.Bytes 0) = ap (λ (m : ContainerModel). get_or m.extras c.args.which (extra.Bytes 0)) c.self.view_is in
    let takes : TakesValue (get_or (extras_in s.columns s.layout) c.args.which (extra.Bytes 0)) (owned c.args.value) = subst (λ (e : Extra). TakesValue e (owned c.args.value)) (sym extras) c.requires.kind in
    let f = slot_field s.columns s.layout c.args.which (takes_slot (get_or (extras_in s.columns s.layout) c.args.which (extra.Bytes 0)) (owned c.args.value) takes) in
    let old_body : c.body.result.now ≡ parts.r.body = own_body s.arena s.arena s.columns s.layout s.records s.records s.empty.items s.scratch.items c.args.row row c.body.result.now c.self.invariant parts c.body.ensures.is in
    old_kept s.arena c.store.new.arena s.columns s.layout s.records s.empty.items s.scratch.items c.args.row row c.args.which (owned c.args.value) (seen c.in_ok-stored.stored) (seen c.field-old.result) c.body.result.now c.self.invariant parts f c.in_ok-stored.ensures.ok old_body c.field-old.ensures

pub put_in-requires-clause-fits : goal.put_in-requires-clause-fits
put_in-requires-clause-fits c =
    let s = c.self.inside in
    let extras : get_or (extras_in s.columns s.layout) c.args.which (extra.Bytes 0) ≡ get_or c.args.self.now.extras c.args.which (extra.Bytes 0) = ap (λ (m : ContainerModel). get_or m.extras c.args.which (extra.Bytes 0)) c.self.view_is in
    let takes : TakesValue (get_or (extras_in s.columns s.layout) c.args.which (extra.Bytes 0)) (owned c.args.value) = subst (λ (e : Extra). TakesValue e (owned c.args.value)) (sym extras) c.requires.kind in
    let f = slot_field s.columns s.layout c.args.which (takes_slot (get_or (extras_in s.columns s.layout) c.args.which (extra.Bytes 0)) (owned c.args.value) takes) in
    let fits = fits_value s.arena c.store.new.arena (get_or (extras_in s.columns s.layout) c.args.which (extra.Bytes 0)) (owned c.args.value) (seen c.in_ok-stored.stored) takes c.in_ok-stored.ensures.ok in
    subst (λ (e : Extra). FitsField e (seen c.in_ok-stored.stored)) (get_or-drop s.columns s.layout c.args.which (extra.Bytes 0)) fits

pub invariant_of-self-2 : goal.invariant_of-self-2
invariant_of-self-2 c =
    let s = c.self.inside in
    let row = live c.args.self.now c.args.row in
    let rows = ap (λ (m : ContainerModel). m.rows) c.self.view_is in
    let parts = live_parts s.arena s.columns s.layout s.records c.args.self.now.rows c.args.row row rows c.requires.live in
    let extras : get_or (extras_in s.columns s.layout) c.args.which (extra.Bytes 0) ≡ get_or c.args.self.now.extras c.args.which (extra.Bytes 0) = ap (λ (m : ContainerModel). get_or m.extras c.args.which (extra.Bytes 0)) c.self.view_is in
    let takes : TakesValue (get_or (extras_in s.columns s.layout) c.args.which (extra.Bytes 0)) (owned c.args.value) = subst (λ (e : Extra). TakesValue e (owned c.args.value)) (sym extras) c.requires.kind in
    let f = slot_field s.columns s.layout c.args.which (takes_slot (get_or (extras_in s.columns s.layout) c.args.which (extra.Bytes 0)) (owned c.args.value) takes) in
    let old_body : c.body.result.now ≡ parts.r.body = own_body s.arena s.arena s.columns s.layout s.records s.records s.empty.items s.scratch.items c.args.row row c.body.result.now c.self.invariant parts c.body.ensures.is in
    let field_is : field_at s.layout (s.columns + c.args.which) ≡ get_or (extras_in s.columns s.layout) c.args.which (extra.Bytes 0) = sym (get_or-drop s.columns s.layout c.args.which (extra.Bytes 0)) in
    let fits = subst (λ (e : Extra). TakesValue e (owned c.args.value)) (sym field_is ∙ f.is) takes in
    let put = c.put_in.ensures.stores ∙ ap (λ (b : List ℕ). set (all_stored s.layout b) (s.columns + c.args.which) (seen c.in_ok-stored.stored)) (sym c.body.ensures.is) in
    slot_container s.arena c.store.new.arena c.give.new.arena s.columns s.layout s.records c.put_in.new.records s.empty.items s.scratch.items c.args.row row c.args.which (owned c.args.value) (seen c.in_ok-stored.stored) (seen c.field-old.result) c.body.result.now c.put_in.ensures.body c.self.invariant parts f fits c.in_ok-stored.ensures.ok c.give.ensures old_body c.field-old.ensures put c.put_in.ensures.is

pub returns-clause-ok : goal.returns-clause-ok
returns-clause-ok c =
    let s = c.self.inside in
    let row = live c.args.self.now c.args.row in
    let rows = ap (λ (m : ContainerModel). m.rows) c.self.view_is in
    let parts = live_parts s.arena s.columns s.layout s.records c.args.self.now.rows c.args.row row rows c.requires.live in
    let extras : get_or (extras_in s.columns s.layout) c.args.which (extra.Bytes 0) ≡ get_or c.args.self.now.extras c.args.which (extra.Bytes 0) = ap (λ (m : ContainerModel). get_or m.extras c.args.which (extra.Bytes 0)) c.self.view_is in
    let takes : TakesValue (get_or (extras_in s.columns s.layout) c.args.which (extra.Bytes 0)) (owned c.args.value) = subst (λ (e : Extra). TakesValue e (owned c.args.value)) (sym extras) c.requires.kind in
    let f = slot_field s.columns s.layout c.args.which (takes_slot (get_or (extras_in s.columns s.layout) c.args.which (extra.Bytes 0)) (owned c.args.value) takes) in
    let old_body : c.body.result.now ≡ parts.r.body = own_body s.arena s.arena s.columns s.layout s.records s.records s.empty.items s.scratch.items c.args.row row c.body.result.now c.self.invariant parts c.body.ensures.is in
    let field_is : field_at s.layout (s.columns + c.args.which) ≡ get_or (extras_in s.columns s.layout) c.args.which (extra.Bytes 0) = sym (get_or-drop s.columns s.layout c.args.which (extra.Bytes 0)) in
    let fits = subst (λ (e : Extra). TakesValue e (owned c.args.value)) (sym field_is ∙ f.is) takes in
    let put = c.put_in.ensures.stores ∙ ap (λ (b : List ℕ). set (all_stored s.layout b) (s.columns + c.args.which) (seen c.in_ok-stored.stored)) (sym c.body.ensures.is) in
    slot_seen s.arena c.store.new.arena c.give.new.arena s.columns s.layout s.records c.put_in.new.records s.empty.items s.scratch.items c.args.row row c.args.which (owned c.args.value) (seen c.in_ok-stored.stored) (seen c.field-old.result) c.body.result.now c.put_in.ensures.body c.self.invariant parts f fits c.in_ok-stored.ensures.ok c.give.ensures old_body c.field-old.ensures put c.put_in.ensures.is c.args.self.now.rows rows

pub returns-clause-there : goal.returns-clause-there
returns-clause-there c =
    let s = c.self.inside in
    let row = live c.args.self.now c.args.row in
    let rows = ap (λ (m : ContainerModel). m.rows) c.self.view_is in
    let parts = live_parts s.arena s.columns s.layout s.records c.args.self.now.rows c.args.row row rows c.requires.live in
    let extras : get_or (extras_in s.columns s.layout) c.args.which (extra.Bytes 0) ≡ get_or c.args.self.now.extras c.args.which (extra.Bytes 0) = ap (λ (m : ContainerModel). get_or m.extras c.args.which (extra.Bytes 0)) c.self.view_is in
    let takes : TakesValue (get_or (extras_in s.columns s.layout) c.args.which (extra.Bytes 0)) (owned c.args.value) = subst (λ (e : Extra). TakesValue e (owned c.args.value)) (sym extras) c.requires.kind in
    let f = slot_field s.columns s.layout c.args.which (takes_slot (get_or (extras_in s.columns s.layout) c.args.which (extra.Bytes 0)) (owned c.args.value) takes) in
    let old_body : c.body.result.now ≡ parts.r.body = own_body s.arena s.arena s.columns s.layout s.records s.records s.empty.items s.scratch.items c.args.row row c.body.result.now c.self.invariant parts c.body.ensures.is in
    let field_is : field_at s.layout (s.columns + c.args.which) ≡ get_or (extras_in s.columns s.layout) c.args.which (extra.Bytes 0) = sym (get_or-drop s.columns s.layout c.args.which (extra.Bytes 0)) in
    let fits = subst (λ (e : Extra). TakesValue e (owned c.args.value)) (sym field_is ∙ f.is) takes in
    let put = c.put_in.ensures.stores ∙ ap (λ (b : List ℕ). set (all_stored s.layout b) (s.columns + c.args.which) (seen c.in_ok-stored.stored)) (sym c.body.ensures.is) in
    set_there c.args.self.now.rows _ c.args.row row _ c.requires.live (slot_seen s.arena c.store.new.arena c.give.new.arena s.columns s.layout s.records c.put_in.new.records s.empty.items s.scratch.items c.args.row row c.args.which (owned c.args.value) (seen c.in_ok-stored.stored) (seen c.field-old.result) c.body.result.now c.put_in.ensures.body c.self.invariant parts f fits c.in_ok-stored.ensures.ok c.give.ensures old_body c.field-old.ensures put c.put_in.ensures.is c.args.self.now.rows rows)

pub returns-clause-changes : goal.returns-clause-changes
returns-clause-changes c =
    let s = c.self.inside in
    let row = live c.args.self.now c.args.row in
    let rows = ap (λ (m : ContainerModel). m.rows) c.self.view_is in
    let parts = live_parts s.arena s.columns s.layout s.records c.args.self.now.rows c.args.row row rows c.requires.live in
    let extras : get_or (extras_in s.columns s.layout) c.args.which (extra.Bytes 0) ≡ get_or c.args.self.now.extras c.args.which (extra.Bytes 0) = ap (λ (m : ContainerModel). get_or m.extras c.args.which (extra.Bytes 0)) c.self.view_is in
    let takes : TakesValue (get_or (extras_in s.columns s.layout) c.args.which (extra.Bytes 0)) (owned c.args.value) = subst (λ (e : Extra). TakesValue e (owned c.args.value)) (sym extras) c.requires.kind in
    let f = slot_field s.columns s.layout c.args.which (takes_slot (get_or (extras_in s.columns s.layout) c.args.which (extra.Bytes 0)) (owned c.args.value) takes) in
    let old_body : c.body.result.now ≡ parts.r.body = own_body s.arena s.arena s.columns s.layout s.records s.records s.empty.items s.scratch.items c.args.row row c.body.result.now c.self.invariant parts c.body.ensures.is in
    let field_is : field_at s.layout (s.columns + c.args.which) ≡ get_or (extras_in s.columns s.layout) c.args.which (extra.Bytes 0) = sym (get_or-drop s.columns s.layout c.args.which (extra.Bytes 0)) in
    let fits = subst (λ (e : Extra). TakesValue e (owned c.args.value)) (sym field_is ∙ f.is) takes in
    let put = c.put_in.ensures.stores ∙ ap (λ (b : List ℕ). set (all_stored s.layout b) (s.columns + c.args.which) (seen c.in_ok-stored.stored)) (sym c.body.ensures.is) in
    subst (λ (a : ArenaModel). Changes a c.give.new.arena (blocks_of_value (owned c.args.value)) (blocks_of_held (held_at row c.args.which)) (text_cost (owned c.args.value))) (ap (λ (m : ContainerModel). m.arena) c.self.view_is)
    (slot_changes s.arena c.store.new.arena c.give.new.arena s.columns s.layout s.records c.put_in.new.records s.empty.items s.scratch.items c.args.row row c.args.which (owned c.args.value) (seen c.in_ok-stored.stored) (seen c.field-old.result) c.body.result.now c.put_in.ensures.body c.self.invariant parts f fits c.in_ok-stored.ensures.ok c.give.ensures old_body c.field-old.ensures put c.put_in.ensures.is)
