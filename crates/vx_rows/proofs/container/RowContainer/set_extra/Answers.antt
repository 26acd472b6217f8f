use Rattle.std.proofs.Common.{◌≡◌, ◌≤◌, ◌+◌, get_or, length, sym, ap, ◌∙◌, arith}
use Rattle.vx_value.specs.declared.value.Kind.TheVariants as kind
use Rattle.vx_rows.specs.declared.fields.Extra.TheVariants as extra
use Rattle.vx_rows.specs.Layout.{body_len, field_at, field_len, place_of}
use Rattle.vx_rows.specs.Container.{ContainerModel, live}
use Rattle.vx_rows.proofs.AccumulatorLemmas.{bytes_container, bytes_seen}
use Rattle.vx_rows.proofs.BodyLemmas.{field_inside}
use Rattle.vx_rows.proofs.FieldLemmas.{has_bytes, has_count}
use Rattle.vx_rows.proofs.RowLemmas.{live_parts, set_there}
use Rattle.vx_rows.proofs.ContainerLemmas.{seen_as}
use Rattle.vx_rows.proofs.container.RowContainer.set_extra.Goals as goal

pub write-requires-clause-inside : goal.write-requires-clause-inside
write-requires-clause-inside c =
    let s = c.self.inside in
    let f = has_bytes s.columns s.layout c.args.which (length c.args.from.now) (ap (λ (m : ContainerModel). get_or m.extras c.args.which (extra.Slot kind.Bool)) c.self.view_is ∙ c.requires.bytes) in
    let end : place_of s.layout (s.columns + c.args.which) + field_len (field_at s.layout (s.columns + c.args.which)) ≤ body_len s.layout = field_inside s.layout (s.columns + c.args.which) f.less in
    let long : field_len (field_at s.layout (s.columns + c.args.which)) ≡ length c.args.from.now = ap field_len f.is ∙ sym (has_count s.columns s.layout c.args.which (length c.args.from.now) (ap (λ (m : ContainerModel). get_or m.extras c.args.which (extra.Slot kind.Bool)) c.self.view_is ∙ c.requires.bytes)) in
    omega (arith, end, long, c.at-at.ensures, c.self.invariant.len)

pub invariant_of-self : goal.invariant_of-self
invariant_of-self c =
    let s = c.self.inside in
    let row = live c.args.self.now c.args.row in
    let rows = ap (λ (m : ContainerModel). m.rows) c.self.view_is in
    let parts = live_parts s.arena s.columns s.layout s.records c.args.self.now.rows c.args.row row rows c.requires.live in
    let f = has_bytes s.columns s.layout c.args.which (length c.args.from.now) (ap (λ (m : ContainerModel). get_or m.extras c.args.which (extra.Slot kind.Bool)) c.self.view_is ∙ c.requires.bytes) in
    bytes_container s.arena s.columns s.layout s.records c.write.new.self s.empty.items s.scratch.items c.args.row row c.args.which c.at-at.result c.args.from.now c.self.invariant parts f (has_count s.columns s.layout c.args.which (length c.args.from.now) (ap (λ (m : ContainerModel). get_or m.extras c.args.which (extra.Slot kind.Bool)) c.self.view_is ∙ c.requires.bytes)) c.at-at.ensures (ap length (sym c.body-body.ensures.is) ∙ (c.body-body.ensures.len ∙ c.self.invariant.len)) c.write.ensures.set

pub returns-clause-set : goal.returns-clause-set
returns-clause-set c =
    let s = c.self.inside in
    let row = live c.args.self.now c.args.row in
    let rows = ap (λ (m : ContainerModel). m.rows) c.self.view_is in
    let parts = live_parts s.arena s.columns s.layout s.records c.args.self.now.rows c.args.row row rows c.requires.live in
    let f = has_bytes s.columns s.layout c.args.which (length c.args.from.now) (ap (λ (m : ContainerModel). get_or m.extras c.args.which (extra.Slot kind.Bool)) c.self.view_is ∙ c.requires.bytes) in
    seen_as c.args.self.now _ _ _ _ _ s.arena c.self.view_is (bytes_seen s.arena s.columns s.layout s.records c.write.new.self s.empty.items s.scratch.items c.args.row row c.args.which c.at-at.result c.args.from.now c.self.invariant parts f (has_count s.columns s.layout c.args.which (length c.args.from.now) (ap (λ (m : ContainerModel). get_or m.extras c.args.which (extra.Slot kind.Bool)) c.self.view_is ∙ c.requires.bytes)) c.at-at.ensures (ap length (sym c.body-body.ensures.is) ∙ (c.body-body.ensures.len ∙ c.self.invariant.len)) c.write.ensures.set c.args.self.now.rows rows)

pub returns-clause-there : goal.returns-clause-there
returns-clause-there c =
    let s = c.self.inside in
    let row = live c.args.self.now c.args.row in
    let rows = ap (λ (m : ContainerModel). m.rows) c.self.view_is in
    let parts = live_parts s.arena s.columns s.layout s.records c.args.self.now.rows c.args.row row rows c.requires.live in
    let f = has_bytes s.columns s.layout c.args.which (length c.args.from.now) (ap (λ (m : ContainerModel). get_or m.extras c.args.which (extra.Slot kind.Bool)) c.self.view_is ∙ c.requires.bytes) in
    set_there c.args.self.now.rows _ c.args.row row _ c.requires.live (bytes_seen s.arena s.columns s.layout s.records c.write.new.self s.empty.items s.scratch.items c.args.row row c.args.which c.at-at.result c.args.from.now c.self.invariant parts f (has_count s.columns s.layout c.args.which (length c.args.from.now) (ap (λ (m : ContainerModel). get_or m.extras c.args.which (extra.Slot kind.Bool)) c.self.view_is ∙ c.requires.bytes)) c.at-at.ensures (ap length (sym c.body-body.ensures.is) ∙ (c.body-body.ensures.len ∙ c.self.invariant.len)) c.write.ensures.set c.args.self.now.rows rows)
