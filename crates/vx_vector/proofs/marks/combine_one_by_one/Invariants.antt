use Rattle.std.proofs.Common.{◌≡◌, ◌++◌, take, drop}
use Rattle.vx_vector.specs.Marks.{strict_marks}
use Rattle.vx_vector.proofs.marks.combine_one_by_one.Given as goal

abbrev pub invariant-loop-row : goal.invariant-loop-row
invariant-loop-row l = l.left ≡ strict_marks (take l.row l.initial.left) (take l.row l.right) ++ drop l.row l.initial.left
