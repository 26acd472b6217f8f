use Rattle.std.proofs.Common.{refl, ◌++◌, ◌∷◌, [], ap, ◌∙◌}
use Rattle.std.specs.Vec.Iter.{into_iter_items}
use Rattle.vx_meaning.specs.Rows.{image}
use Rattle.vx_meaning.proofs.RowLemmas.{sound-more, stop-more, stop-here, map-more, image-row, image-fault}
use Rattle.vx_meaning.proofs.rowwise.over_project.Goals as goal

pub returns-in-Fault-clause-stop : goal.returns-in-Fault-clause-stop
returns-in-Fault-clause-stop c = (
  refl,
  stop-here c.args.exprs.now c.args.below.items (into_iter_items c.into_iter-rest.result) (into_iter_items c.loop-row.rest) (into_iter_items c.next.new.self) c.in-Some.row c.in-Fault.code
      c.into_iter-rest.ensures.rest c.loop-row.invariant.stop c.in-Some.ensures.items (image-fault _ _ _ c.in-Fault.code c.in_ok-code.ensures c.in-Fault.is),
)

pub loop-row-preserved : goal.loop-row-preserved
loop-row-preserved c =
    let exprs = c.args.exprs.now in
    let start = into_iter_items c.into_iter-rest.result in
    let rest = into_iter_items c.loop-row.rest in
    let later = into_iter_items c.next.new.self in
    let got = image-row exprs c.in-Some.row c.in_ok-code.field-0 c.in-Row.image c.in_ok-code.ensures c.in-Row.is in
    record {
      images = map-more (image exprs) start rest later c.in-Some.row c.loop-row.images.items c.push_row.new.rows.items c.loop-row.invariant.images c.in-Some.ensures.items (c.in_ok-push_row-in-Row.ensures ∙ ap (λ row. c.loop-row.images.items ++ row ∷ []) got.1);
      sound = sound-more exprs start rest later c.in-Some.row c.loop-row.invariant.sound c.in-Some.ensures.items got.0;
      stop = stop-more exprs start rest later c.in-Some.row c.loop-row.invariant.stop c.in-Some.ensures.items got.0;
    }
