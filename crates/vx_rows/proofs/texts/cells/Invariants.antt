use Rattle.std.proofs.Common.{◌≡◌, map, take}
use Rattle.vx_rows.specs.Body.{all_stored}
use Rattle.vx_rows.specs.Texts.{value_of}
use Rattle.vx_rows.proofs.texts.cells.Given as goal

abbrev pub invariant-loop-which : goal.invariant-loop-which
invariant-loop-which l = l.cells.items ≡ map (value_of l.arena) (take l.which (all_stored l.layout l.body))
