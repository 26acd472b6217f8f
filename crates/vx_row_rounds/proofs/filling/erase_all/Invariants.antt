use Rattle.std.proofs.Common.{◌≡◌, vec_len}
use Rattle.vx_row_rounds.specs.Rounds.{AreKept}
use Rattle.vx_row_rounds.proofs.filling.erase_all.Given as goal

abbrev pub invariant-loop-number : goal.invariant-loop-number
invariant-loop-number l = record { kept : AreKept l.container.rows l.numbers.items; kinds : l.container.kinds ≡ l.initial.container.kinds }

abbrev pub decreases-loop-number : goal.decreases-loop-number
decreases-loop-number l = vec_len l.numbers
