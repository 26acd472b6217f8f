use Rattle.std.proofs.Common.{◌≡◌, ◌<◌, length, get_or, subst}
use Rattle.std.proofs.lemmas.List.Elements.{All-more}
use Rattle.vx_page.specs.Page.{cell_bytes, IsLawfulCell}
use Rattle.vx_page.proofs.Steps.{more}
use Rattle.vx_page.proofs.writing.push_row.Goals as goal

pub loop-cell-preserved : goal.loop-cell-preserved
loop-cell-preserved c =
    let lt : c.loop-cell.cell-index < length c.args.row.now = rw (← c.cells-cell-items.ensures) c.loop-cell-test.true in
    let here : c.cell-item.result ≡ get_or c.args.row.now c.loop-cell.cell-index c.cell-item.result = rw (← c.cells-cell-items.ensures) c.cell-item.is in (
      more cell_bytes c.args.bytes.now.items c.loop-cell.bytes.items c.push_cell.new.bytes.items c.args.row.now c.loop-cell.cell-index c.cell-item.result lt here c.loop-cell.invariant.0 c.in_ok-push_cell.ensures.ok,
      All-more IsLawfulCell c.args.row.now c.loop-cell.cell-index c.cell-item.result lt c.loop-cell.invariant.1 (subst IsLawfulCell here c.push_cell.ensures.lawful),
    )
