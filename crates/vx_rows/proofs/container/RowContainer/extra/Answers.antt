use Rattle.std.proofs.Common.{get_or, ap, ◌∙◌}
use Rattle.vx_rows.specs.declared.fields.Extra.TheVariants as extra
use Rattle.vx_value.specs.declared.value.Kind.TheVariants as kind
use Rattle.vx_rows.specs.Container.{ContainerModel, LiveRow, held_at, is_bytes, live}
use Rattle.vx_rows.proofs.FieldLemmas.{bytes_field, bytes_held}
use Rattle.vx_rows.proofs.RowLemmas.{live_parts}
use Rattle.vx_rows.proofs.ContainerLemmas.{own_body}
use Rattle.vx_rows.proofs.container.RowContainer.extra.Goals as goal

pub returns : goal.returns
returns c =
    let s = c.self.inside in
    let row = live c.args.self.now c.args.row in
    let parts = live_parts s.arena s.columns s.layout s.records c.args.self.now.rows c.args.row row (ap (λ (m : ContainerModel). m.rows) c.self.view_is) c.requires.live in
    let f = bytes_field s.columns s.layout c.args.which (ap (λ (m : ContainerModel). is_bytes (get_or m.extras c.args.which (extra.Slot kind.Bool))) c.self.view_is ∙ c.requires.bytes) in
    ap (λ (r : LiveRow). held_at r c.args.which) parts.is ∙ bytes_held s.arena s.columns s.layout parts.r c.args.which c.body.result.now c.bytes_at.result.now f (own_body s.arena s.arena s.columns s.layout s.records s.records s.empty.items s.scratch.items c.args.row row c.body.result.now c.self.invariant parts c.body.ensures.is) c.bytes_at.ensures
