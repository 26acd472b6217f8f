-- No number is kept.
use Rattle.std.proofs.Common.{Option, List, [], arith}
use Rattle.vx_rows.specs.Container.{LiveRow}
use Rattle.vx_row_rounds.specs.Rounds.{AreKept}

pub kept_none : (rows : List (Option LiveRow)) → AreKept rows []
kept_none rows = record { live = λ k lt. absurd (omega (arith, lt)); apart = λ j k less lt. absurd (omega (arith, lt)) }
