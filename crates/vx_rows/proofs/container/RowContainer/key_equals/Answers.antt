use Rattle.std.proofs.Common.{◌≡◌, ◌≤◌, ◌<◌, IsTrue, List, get_or, length, sym, ap, ◌∙◌, subst, arith}
use Rattle.vx_rows.specs.Body.{seen}
use Rattle.vx_rows.specs.Texts.{value_of}
use Rattle.vx_value.specs.declared.value.Value.TheVariants as values
use Rattle.vx_value.specs.Value.{owned}
use Rattle.vx_vector.specs.Batch.{BatchModel, row_of}
use Rattle.vx_vector.specs.Column.{Column}
use Rattle.vx_rows.specs.Container.{ContainerModel, live}
use Rattle.vx_rows.proofs.FieldLemmas.{cell_of_live, key_at, keys_more, kept_field}
use Rattle.vx_rows.proofs.Filling.{column_value}
use Rattle.vx_rows.proofs.RowLemmas.{live_parts, many_columns}
use Rattle.vx_rows.proofs.ContainerLemmas.{held_body, own_body}
use Rattle.vx_rows.proofs.container.RowContainer.key_equals.Goals as goal

pub is_stored-requires : goal.is_stored-requires
is_stored-requires c =
    let s = c.self.inside in
    let row = live c.args.self.now c.args.row in
    let parts = live_parts s.arena s.columns s.layout s.records c.args.self.now.rows c.args.row row (ap (λ (m : ContainerModel). m.rows) c.self.view_is) c.requires.live in
    let which = get_or c.args.columns.now c.loop-place.place 0 in
    let of = get_or c.args.of.now c.loop-place.place 0 in
    let kinds : length c.args.self.now.kinds ≡ s.columns = sym (ap (λ (m : ContainerModel). length m.kinds) c.self.view_is) ∙ many_columns s.columns s.layout c.self.invariant.few in
    let less : get_or c.args.columns.now c.loop-place.place 0 < s.columns = omega (arith, kinds, c.requires.columns c.loop-place.place 0 c.loop-place-test.true) in
    let few : s.columns ≤ length s.layout = c.self.invariant.few in
    kept_field s.arena s.layout c.body-body.result.now which (seen c.field-stored.result) (held_body s.arena s.arena s.columns s.layout s.records s.records s.empty.items s.scratch.items c.args.row row c.body-body.result.now c.self.invariant parts c.body-body.ensures.is) (omega (arith, less, few)) c.field-stored.ensures

pub returns-then-not-is_stored : goal.returns-then-not-is_stored
returns-then-not-is_stored c =
    let s = c.self.inside in
    let row = live c.args.self.now c.args.row in
    let parts = live_parts s.arena s.columns s.layout s.records c.args.self.now.rows c.args.row row (ap (λ (m : ContainerModel). m.rows) c.self.view_is) c.requires.live in
    let which = get_or c.args.columns.now c.loop-place.place 0 in
    let of = get_or c.args.of.now c.loop-place.place 0 in
    let kinds : length c.args.self.now.kinds ≡ s.columns = sym (ap (λ (m : ContainerModel). length m.kinds) c.self.view_is) ∙ many_columns s.columns s.layout c.self.invariant.few in
    let less : get_or c.args.columns.now c.loop-place.place 0 < s.columns = omega (arith, kinds, c.requires.columns c.loop-place.place 0 c.loop-place-test.true) in
    let few : s.columns ≤ length s.layout = c.self.invariant.few in
    let own : get_or row.cells (get_or c.args.columns.now c.loop-place.place 0) values.Null ≡ value_of s.arena (seen c.field-stored.result) = cell_of_live s.arena s.columns s.layout parts.r row which (seen c.field-stored.result) c.body-body.result.now parts.is (own_body s.arena s.arena s.columns s.layout s.records s.records s.empty.items s.scratch.items c.args.row row c.body-body.result.now c.self.invariant parts c.body-body.ensures.is) less few c.field-stored.ensures in
    let at_index = subst (λ (l : List Column). c.index.result.now ≡ get_or l of c.index.result.now) (ap (λ (b : BatchModel). b.columns) c.batch.view_is) c.index.ensures in
    let other : get_or (row_of c.args.batch.now.columns c.args.at) (get_or c.args.of.now c.loop-place.place 0) values.Null ≡ owned c.get-value.result = column_value c.args.batch.now.columns of c.args.at c.index.result.now (owned c.get-value.result) (c.requires.of c.loop-place.place 0 (omega (arith, c.loop-place-test.true, c.requires.many))) at_index c.get-value.ensures.is in (
      λ so. let no_so : ⊥ = cc in absurd no_so,
      λ same.
          let equal : value_of s.arena (seen c.field-stored.result) ≡ owned c.get-value.result = sym own ∙ (key_at c.args.columns.now c.args.of.now row.cells (row_of c.args.batch.now.columns c.args.at) c.loop-place.place c.requires.many c.loop-place-test.true same ∙ other) in
          subst (λ b. IsTrue b) c.if-not-is_stored.true (c.is_stored.ensures.1 equal),
    )

pub loop-place-preserved : goal.loop-place-preserved
loop-place-preserved c =
    let s = c.self.inside in
    let row = live c.args.self.now c.args.row in
    let parts = live_parts s.arena s.columns s.layout s.records c.args.self.now.rows c.args.row row (ap (λ (m : ContainerModel). m.rows) c.self.view_is) c.requires.live in
    let which = get_or c.args.columns.now c.loop-place.place 0 in
    let of = get_or c.args.of.now c.loop-place.place 0 in
    let kinds : length c.args.self.now.kinds ≡ s.columns = sym (ap (λ (m : ContainerModel). length m.kinds) c.self.view_is) ∙ many_columns s.columns s.layout c.self.invariant.few in
    let less : get_or c.args.columns.now c.loop-place.place 0 < s.columns = omega (arith, kinds, c.requires.columns c.loop-place.place 0 c.loop-place-test.true) in
    let few : s.columns ≤ length s.layout = c.self.invariant.few in
    let own : get_or row.cells (get_or c.args.columns.now c.loop-place.place 0) values.Null ≡ value_of s.arena (seen c.field-stored.result) = cell_of_live s.arena s.columns s.layout parts.r row which (seen c.field-stored.result) c.body-body.result.now parts.is (own_body s.arena s.arena s.columns s.layout s.records s.records s.empty.items s.scratch.items c.args.row row c.body-body.result.now c.self.invariant parts c.body-body.ensures.is) less few c.field-stored.ensures in
    let at_index = subst (λ (l : List Column). c.index.result.now ≡ get_or l of c.index.result.now) (ap (λ (b : BatchModel). b.columns) c.batch.view_is) c.index.ensures in
    let other : get_or (row_of c.args.batch.now.columns c.args.at) (get_or c.args.of.now c.loop-place.place 0) values.Null ≡ owned c.get-value.result = column_value c.args.batch.now.columns of c.args.at c.index.result.now (owned c.get-value.result) (c.requires.of c.loop-place.place 0 (omega (arith, c.loop-place-test.true, c.requires.many))) at_index c.get-value.ensures.is in
    let equal : value_of s.arena (seen c.field-stored.result) ≡ owned c.get-value.result = c.is_stored.ensures.0 c.if-not-is_stored.false in
    keys_more c.args.columns.now c.args.of.now row.cells (row_of c.args.batch.now.columns c.args.at) c.loop-place.place c.requires.many c.loop-place-test.true c.loop-place.invariant (own ∙ (equal ∙ sym other))
