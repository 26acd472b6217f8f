use Rattle.std.proofs.Common.{◌≡◌, length}
use Rattle.vx_eval_rounds.proofs.parts.marks.Given as goal

abbrev pub invariant-loop-row : goal.invariant-loop-row
invariant-loop-row l = length l.marks.items ≡ l._row
