use Rattle.std.proofs.Common.{◌≡◌, length, take, All}
use Rattle.vx_page.specs.Page.{row_bytes, IsLawfulCell}
use Rattle.vx_page.proofs.writing.row_len.Given as goal

abbrev pub invariant-loop-cell : goal.invariant-loop-cell
invariant-loop-cell l = (l.size ≡ length (row_bytes (take l.cell-index l.row))) × All IsLawfulCell (take l.cell-index l.row)
