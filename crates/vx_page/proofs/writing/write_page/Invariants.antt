use Rattle.std.proofs.Common.{◌≡◌, ◌++◌, length, take, All}
use Rattle.std.specs.Int.{bytes_high_first}
use Rattle.vx_page.specs.Page.{body, IsLawfulCell}
use Rattle.vx_page.proofs.writing.write_page.Given as goal

abbrev pub invariant-loop-row : goal.invariant-loop-row
invariant-loop-row l =
    (l.bytes.items ≡ (bytes_high_first 4 (length l.rows) ++ bytes_high_first 4 (length (body l.rows))) ++ body (take l.row-index l.rows))
    × All (λ row. All IsLawfulCell row) (take l.row-index l.rows)
