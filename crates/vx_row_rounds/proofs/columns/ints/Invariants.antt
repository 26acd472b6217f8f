use Rattle.std.proofs.Common.{◌≡◌, length}
use Rattle.vx_row_rounds.proofs.columns.ints.Given as goal

abbrev pub invariant-loop-row : goal.invariant-loop-row
invariant-loop-row l = record { values : length l.values.items ≡ l.row; marks : length l.marks.items ≡ l.row }
