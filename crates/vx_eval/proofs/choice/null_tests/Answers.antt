use Rattle.std.proofs.Common.{false}
use Rattle.vx_eval.proofs.choice.null_tests.Goals as goal

pub returns-clause-each : goal.returns-clause-each
returns-clause-each c = λ k raw h e. c.in_ok-values.ensures.each k 0 false h raw e
