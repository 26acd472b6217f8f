use Rattle.std.proofs.Common.{◌≡◌}
use Rattle.vx_meaning.specs.Joins.{nulls}
use Rattle.vx_meaning.proofs.joining.nulls.Given as goal

abbrev pub invariant-loop : goal.invariant-loop
invariant-loop l = l.cells.items ≡ nulls l.counter
