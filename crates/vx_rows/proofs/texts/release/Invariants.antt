use Rattle.std.proofs.Common.{take}
use Rattle.vx_rows.specs.Body.{all_stored}
use Rattle.vx_rows.specs.Texts.{Frees}
use Rattle.vx_rows.proofs.texts.release.Given as goal

abbrev pub invariant-loop-which : goal.invariant-loop-which
invariant-loop-which l = Frees l.initial.arena l.arena (take l.which (all_stored l.layout l.body))
