use Rattle.std.proofs.Common.{◌≡◌}
use Rattle.vx_row_rounds.specs.Rounds.{AreKept}
use Rattle.vx_row_rounds.proofs.filling.add_all.Given as goal

abbrev pub invariant-loop-at : goal.invariant-loop-at
invariant-loop-at l = record { kept : AreKept l.container.rows l.numbers.items; kinds : l.container.kinds ≡ l.initial.container.kinds }
