use Rattle.std.proofs.Common.{◌≡◌, ◌+◌, get_or, sym, ap, ◌∙◌, List, ℕ}
use Rattle.vx_rows.specs.Body.{seen, stored_in}
use Rattle.vx_rows.specs.Texts.{value_of}
use Rattle.vx_rows.specs.declared.fields.Extra.TheVariants as extra
use Rattle.vx_rows.specs.Container.{ContainerModel, LiveRow, cell, held_at, is_bytes, live}
use Rattle.vx_rows.proofs.FieldLemmas.{kept_field, slot_cell, slot_field}
use Rattle.vx_rows.proofs.RowLemmas.{live_parts}
use Rattle.vx_rows.proofs.ContainerLemmas.{held_body, own_body}
use Rattle.vx_rows.proofs.ResultLemmas.{ok_weaker}
use Rattle.vx_rows.proofs.container.RowContainer.slot.Goals as goal

pub value-requires : goal.value-requires
value-requires c =
    let s = c.self.inside in
    let row = live c.args.self.now c.args.row in
    let parts = live_parts s.arena s.columns s.layout s.records c.args.self.now.rows c.args.row row (ap (λ (m : ContainerModel). m.rows) c.self.view_is) c.requires.live in
    let f = slot_field s.columns s.layout c.args.which (ap (λ (m : ContainerModel). is_bytes (get_or m.extras c.args.which (extra.Bytes 0))) c.self.view_is ∙ c.requires.slot) in
    kept_field s.arena s.layout c.body.result.now (s.columns + c.args.which) (seen c.field-stored.result) (held_body s.arena s.arena s.columns s.layout s.records s.records s.empty.items s.scratch.items c.args.row row c.body.result.now c.self.invariant parts c.body.ensures.is) f.less c.field-stored.ensures

pub returns : goal.returns
returns c =
    let s = c.self.inside in
    let row = live c.args.self.now c.args.row in
    let parts = live_parts s.arena s.columns s.layout s.records c.args.self.now.rows c.args.row row (ap (λ (m : ContainerModel). m.rows) c.self.view_is) c.requires.live in
    let f = slot_field s.columns s.layout c.args.which (ap (λ (m : ContainerModel). is_bytes (get_or m.extras c.args.which (extra.Bytes 0))) c.self.view_is ∙ c.requires.slot) in
    let stored : stored_in s.layout parts.r.body (s.columns + c.args.which) ≡ seen c.field-stored.result = sym (c.field-stored.ensures ∙ ap (λ (b : List ℕ). stored_in s.layout b (s.columns + c.args.which)) (own_body s.arena s.arena s.columns s.layout s.records s.records s.empty.items s.scratch.items c.args.row row c.body.result.now c.self.invariant parts c.body.ensures.is)) in
    ok_weaker c.value.result (λ v. v ≡ value_of s.arena (seen c.field-stored.result)) (λ v. held_at row c.args.which ≡ cell v)
    (λ v is. ap (λ (r : LiveRow). held_at r c.args.which) parts.is ∙ (slot_cell s.arena s.columns s.layout parts.r c.args.which f ∙ ap (λ x. cell (value_of s.arena x)) stored ∙ ap cell (sym is)))
    c.value.ensures
