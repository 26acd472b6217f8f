use Rattle.std.proofs.Common.{◌≡◌, length}
use Rattle.vx_row_rounds.proofs.columns.texts.Given as goal

abbrev pub invariant-loop-row : goal.invariant-loop-row
invariant-loop-row l = length l.texts ≡ l.row
