use Rattle.std.proofs.Common.{false}
use Rattle.vx_eval.proofs.wanted.by_nulls.Goals as goal

pub returns-clause-each : goal.returns-clause-each
returns-clause-each c = λ k raw h e w z. c.in_ok-values.ensures.each k 0 false false h raw e w z
