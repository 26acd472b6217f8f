use Rattle.std.proofs.Common.{◌≡◌, take}
use Rattle.vx_value.specs.KeyBytes.{key_values}
use Rattle.vx_meaning.proofs.cells.key_of.Given as goal

abbrev pub invariant-loop-column : goal.invariant-loop-column
invariant-loop-column l = l.key.items ≡ key_values (take l.column-index l.columns) l.row
