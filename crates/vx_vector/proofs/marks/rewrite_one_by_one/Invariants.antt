use Rattle.std.proofs.Common.{◌≡◌, ◌++◌, take, drop, map}
use Rattle.vx_vector.proofs.marks.rewrite_one_by_one.Given as goal

abbrev pub invariant-loop-mark : goal.invariant-loop-mark
invariant-loop-mark g l = l.marks ≡ map g.R.Rewrite.becomes (take l.mark-index l.initial.marks) ++ drop l.mark-index l.initial.marks
