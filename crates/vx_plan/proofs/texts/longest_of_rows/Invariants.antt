use Rattle.std.proofs.Common.{◌≡◌, map, max, drop}
use Rattle.vx_expr.specs.Depth.{greatest, text_len}
use Rattle.vx_plan.proofs.texts.longest_of_rows.Given as goal

abbrev pub invariant-loop-row : goal.invariant-loop-row
invariant-loop-row l = max l.longest (greatest (map (λ row. greatest (map text_len row)) (drop l.row-index l.rows))) ≡ greatest (map (λ row. greatest (map text_len row)) l.rows)
