use Rattle.std.proofs.Common.{◌≡◌, take}
use Rattle.vx_value.proofs.row.Row.copy.Given as goal

abbrev pub invariant-loop-cell : goal.invariant-loop-cell
invariant-loop-cell l = l.copies.items ≡ take l.cell-index l.self
