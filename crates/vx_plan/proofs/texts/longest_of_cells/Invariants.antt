use Rattle.std.proofs.Common.{◌≡◌, map, max, drop}
use Rattle.vx_expr.specs.Depth.{greatest, text_len}
use Rattle.vx_plan.proofs.texts.longest_of_cells.Given as goal

abbrev pub invariant-loop-cell : goal.invariant-loop-cell
invariant-loop-cell l = max l.longest (greatest (map text_len (drop l.cell-index l.cells))) ≡ greatest (map text_len l.cells)
