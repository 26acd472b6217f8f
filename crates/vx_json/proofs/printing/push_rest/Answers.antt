use Rattle.vx_json.proofs.PrintingLaws.{bytes-more, utf8-more}
use Rattle.vx_json.proofs.printing.push_rest.Goals as goal

pub loop-cell-preserved : goal.loop-cell-preserved
loop-cell-preserved c = (
  bytes-more c.args.text.now.items c.loop-cell.text.items c.push_cell.new.text.items c.args.cells.now c.loop-cell.cell-index c.cell-item.result
      c.loop-cell-test.true c.cell-item.is c.loop-cell.invariant.0 (rw c.in_ok-push.ensures.items at c.in_ok-push_cell.ensures.ok),
  utf8-more c.args.cells.now c.loop-cell.cell-index c.cell-item.result c.loop-cell-test.true c.cell-item.is c.loop-cell.invariant.1 c.in_ok-push_cell.ensures.utf8,
)
