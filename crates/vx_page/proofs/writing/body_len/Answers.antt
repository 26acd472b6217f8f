use Rattle.std.proofs.Common.{arith}
use Rattle.vx_page.specs.Page.{row_bytes}
use Rattle.vx_page.proofs.Steps.{within}
use Rattle.vx_page.proofs.writing.body_len.Goals as goal

pub row_len-size-requires : goal.row_len-size-requires
row_len-size-requires c =
    let fits = within row_bytes c.args.rows.now c.loop-row.row-index c.row-item.result c.loop-row-test.true c.row-item.is in
    omega (arith, fits, c.requires)

pub overflow_add-size : goal.overflow_add-size
overflow_add-size c =
    let fits = within row_bytes c.args.rows.now c.loop-row.row-index c.row-item.result c.loop-row-test.true c.row-item.is in
    omega (arith, fits, c.requires, c.loop-row.invariant, c.row_len-size.ensures.len)
