use Rattle.std.proofs.lemmas.List.{get_or_default}
use Rattle.std.proofs.lemmas.Result.{err_from_is_err_and}
use Rattle.vx_page.specs.Reading.{body_cell_at, in_turn}
use Rattle.vx_page.proofs.Turns.{goes_on, ends, is_done}
use Rattle.vx_page.proofs.reading.row_of.Goals as goal

pub returns-in_err-cell : goal.returns-in_err-cell
returns-in_err-cell c =
    let read = body_cell_at c.args.bounds.whole c.args.bounds.end in
    let p = err_from_is_err_and c.from_residual-in_err-cell.result c.from_residual-in_err-cell.ensures.1 in
    rw (p.1, p.2) (ends read c.in_err-cell.field-0.0 c.loop-slot.cells.items c.args.shape.now c.loop-slot.slot-index _ c.loop-slot.rest.now (in_turn read c.args.shape.now c.args.bytes.now) c.loop-slot-test.true (get_or_default c.args.shape.now c.loop-slot.slot-index _ _ c.loop-slot-test.true) c.in_err-cell.ensures c.loop-slot.invariant)

pub loop-slot-preserved : goal.loop-slot-preserved
loop-slot-preserved c =
    let read = body_cell_at c.args.bounds.whole c.args.bounds.end in
    rw c.in_ok-push.ensures.items (goes_on read c.loop-slot.cells.items c.args.shape.now c.loop-slot.slot-index _ c.loop-slot.rest.now c.in_ok-cell.cell c.in_ok-cell.after.now (in_turn read c.args.shape.now c.args.bytes.now) c.loop-slot-test.true (get_or_default c.args.shape.now c.loop-slot.slot-index _ _ c.loop-slot-test.true) c.in_ok-cell.ensures c.loop-slot.invariant)

pub returns : goal.returns
returns c =
    let read = body_cell_at c.args.bounds.whole c.args.bounds.end in
    rw c.of.ensures (is_done read c.loop-slot.cells.items c.args.shape.now c.loop-slot.slot-index c.loop-slot.rest.now (in_turn read c.args.shape.now c.args.bytes.now) c.loop-slot-test.false c.loop-slot.invariant)
