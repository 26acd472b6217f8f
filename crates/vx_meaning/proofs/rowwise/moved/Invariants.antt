use Rattle.std.proofs.Common.{◌≡◌, ◌++◌, length, reverse}
use Rattle.vx_meaning.proofs.rowwise.moved.Given as goal

abbrev pub invariant-loop-row : goal.invariant-loop-row
invariant-loop-row l = l.rest ++ reverse l.moved.items ≡ l.initial.rest

abbrev pub decreases-loop-row : goal.decreases-loop-row
decreases-loop-row l = length l.rest
