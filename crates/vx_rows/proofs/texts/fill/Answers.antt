use Rattle.std.proofs.Common.{◌≡◌, ◌≤◌, List, length, get_or, ap, subst, ◌∙◌, arith}
use Rattle.vx_value.specs.Value.{owned}
use Rattle.vx_vector.specs.Batch.{BatchModel, kinds_of, row_of}
use Rattle.vx_vector.specs.Column.{Column}
use Rattle.vx_rows.specs.Body.{all_stored, seen}
use Rattle.vx_rows.specs.Texts.{empty_of}
use Rattle.vx_rows.proofs.Filling.{filled_none, filled_more, filled_back, filled_held, column_value, fits_column, many_cells, many_kinds}
use Rattle.vx_rows.proofs.texts.fill.Goals as goal

pub overflow_cast-which-end : goal.overflow_cast-which-end
overflow_cast-which-end c =
    let few : length (kinds_of c.args.batch.now.columns) ≤ length c.args.layout.now = c.requires.columns.few in
    let many : length c.batch.inside.columns.items ≡ length c.args.batch.now.columns = ap (λ (b : BatchModel). length b.columns) c.batch.view_is in
    record { fits = omega (arith, few, many, many_kinds c.args.batch.now.columns, c.len-which-end.ensures, c.count-fields.ensures, c.count-fields.type_inv) }

pub loop-which-init : goal.loop-which-init
loop-which-init c = record {
  len = c.requires.body;
  filled = filled_none c.args.arena.now c.args.layout.now (all_stored c.args.layout.now c.args.body.now) (row_of c.args.batch.now.columns c.args.at) (omega (arith, c.taken-taken.ensures.taken, c.taken-taken.type_inv)) c.requires.empty;
}

pub put-requires-clause-fits : goal.put-requires-clause-fits
put-requires-clause-fits c =
    let many : length c.batch.inside.columns.items ≡ length c.args.batch.now.columns = ap (λ (b : BatchModel). length b.columns) c.batch.view_is in
    let at_index = subst (λ (l : List Column). c.index.result.now ≡ get_or l c.loop-which.which c.index.result.now) (ap (λ (b : BatchModel). b.columns) c.batch.view_is) c.index.ensures in
    fits_column c.loop-which.arena c.store.new.arena c.args.layout.now c.args.batch.now.columns c.loop-which.which c.index.result.now (owned c.get.result) (seen c.in-Ok.stored) c.requires.columns (omega (arith, many, c.loop-which-test.true, c.len-which-end.ensures)) at_index c.get.ensures.kind c.in-Ok.ensures.ok

pub release-requires-clause-held : goal.release-requires-clause-held
release-requires-clause-held c = c.in-Err.ensures.err.holds (all_stored c.args.layout.now c.loop-which.body) (filled_held c.args.arena.now c.loop-which.arena (empty_of c.args.layout.now) (all_stored c.args.layout.now c.loop-which.body) (row_of c.args.batch.now.columns c.args.at) c.loop-which.which c.loop-which.invariant.filled)

pub returns-in-Err-clause-err : goal.returns-in-Err-clause-err
returns-in-Err-clause-err c =
    let columns = c.args.batch.now.columns in
    let many : length c.batch.inside.columns.items ≡ length columns = ap (λ (b : BatchModel). length b.columns) c.batch.view_is in
    let at_index = subst (λ (l : List Column). c.index.result.now ≡ get_or l c.loop-which.which c.index.result.now) (ap (λ (b : BatchModel). b.columns) c.batch.view_is) c.index.ensures in
    filled_back c.args.arena.now c.loop-which.arena c.store.new.arena c.release.new.arena (empty_of c.args.layout.now) (all_stored c.args.layout.now c.loop-which.body) (row_of columns c.args.at) c.loop-which.which (owned c.get.result)
    (omega (arith, many, c.loop-which-test.true, c.len-which-end.ensures, many_cells columns c.args.at))
    (column_value columns c.loop-which.which c.args.at c.index.result.now (owned c.get.result) (omega (arith, many, c.loop-which-test.true, c.len-which-end.ensures)) at_index c.get.ensures.is)
    c.loop-which.invariant.filled c.in-Err.ensures.err c.release.ensures

pub loop-which-preserved : goal.loop-which-preserved
loop-which-preserved c =
    let columns = c.args.batch.now.columns in
    let many : length c.batch.inside.columns.items ≡ length columns = ap (λ (b : BatchModel). length b.columns) c.batch.view_is in
    let at_index = subst (λ (l : List Column). c.index.result.now ≡ get_or l c.loop-which.which c.index.result.now) (ap (λ (b : BatchModel). b.columns) c.batch.view_is) c.index.ensures in
    record {
      len = c.put.ensures.len ∙ c.loop-which.invariant.len;
      filled = filled_more c.args.arena.now c.loop-which.arena c.store.new.arena c.args.layout.now (all_stored c.args.layout.now c.loop-which.body) (row_of columns c.args.at) (kinds_of columns) c.loop-which.which (owned c.get.result) (seen c.in-Ok.stored) c.requires.columns
          (omega (arith, many, c.loop-which-test.true, c.len-which-end.ensures, many_kinds columns))
          (omega (arith, many_kinds columns, many_cells columns c.args.at))
          (column_value columns c.loop-which.which c.args.at c.index.result.now (owned c.get.result) (omega (arith, many, c.loop-which-test.true, c.len-which-end.ensures)) at_index c.get.ensures.is)
          c.in-Ok.ensures.ok c.loop-which.invariant.filled (all_stored c.args.layout.now c.put.new.body) c.put.ensures.is;
    }
