use Rattle.std.proofs.Common.{◌≡◌, ◌++◌, take, All}
use Rattle.vx_page.specs.Page.{row_bytes, IsLawfulCell}
use Rattle.vx_page.proofs.writing.push_row.Given as goal

abbrev pub invariant-loop-cell : goal.invariant-loop-cell
invariant-loop-cell l = (l.bytes.items ≡ l.initial.bytes.items ++ row_bytes (take l.cell-index l.row)) × All IsLawfulCell (take l.cell-index l.row)
