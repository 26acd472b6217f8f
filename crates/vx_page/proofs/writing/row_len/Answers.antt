use Rattle.std.proofs.Common.{◌≡◌, ◌<◌, length, get_or, subst, take, take_all, All, arith}
use Rattle.std.proofs.lemmas.List.Elements.{All-more}
use Rattle.vx_page.specs.Page.{cell_bytes, row_bytes, IsLawfulCell}
use Rattle.vx_page.proofs.Steps.{within}
use Rattle.vx_page.proofs.Lengths.{length_more, row_within}
use Rattle.vx_page.proofs.writing.row_len.Goals as goal

pub overflow_add-size : goal.overflow_add-size
overflow_add-size c =
    let fits = within cell_bytes c.args.row.now c.loop-cell.cell-index c.cell-item.result (rw (← c.cells-cell-items.ensures) c.loop-cell-test.true) (rw (← c.cells-cell-items.ensures) c.cell-item.is) in
    omega (arith, fits, c.requires, c.loop-cell.invariant.0, c.cell_len-size.ensures.len)

pub loop-cell-preserved : goal.loop-cell-preserved
loop-cell-preserved c =
    let lt : c.loop-cell.cell-index < length c.args.row.now = rw (← c.cells-cell-items.ensures) c.loop-cell-test.true in
    let here : c.cell-item.result ≡ get_or c.args.row.now c.loop-cell.cell-index c.cell-item.result = rw (← c.cells-cell-items.ensures) c.cell-item.is in
    let longer = length_more cell_bytes c.args.row.now c.loop-cell.cell-index c.cell-item.result lt here in (
      omega (arith, longer, c.loop-cell.invariant.0, c.cell_len-size.ensures.len),
      All-more IsLawfulCell c.args.row.now c.loop-cell.cell-index c.cell-item.result lt c.loop-cell.invariant.1 (subst IsLawfulCell here c.cell_len-size.ensures.lawful),
    )

pub returns-clause-len : goal.returns-clause-len
returns-clause-len c =
    let all : take c.loop-cell.cell-index c.args.row.now ≡ c.args.row.now = take_all c.loop-cell.cell-index c.args.row.now (rw (← c.cells-cell-items.ensures) c.loop-cell-test.false) in
    rw all at c.loop-cell.invariant.0

pub returns-clause-within : goal.returns-clause-within
returns-clause-within c = λ shape shaped.
    let all : take c.loop-cell.cell-index c.args.row.now ≡ c.args.row.now = take_all c.loop-cell.cell-index c.args.row.now (rw (← c.cells-cell-items.ensures) c.loop-cell-test.false) in
    let lawful : All IsLawfulCell c.args.row.now = rw all at c.loop-cell.invariant.1 in
    let most = row_within shape c.args.row.now lawful shaped in
    omega (arith, most, returns-clause-len c)
