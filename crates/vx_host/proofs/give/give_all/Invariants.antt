use Rattle.std.proofs.Common.{length}
use Rattle.vx_host.proofs.Giving.{HasGiven}
use Rattle.vx_host.proofs.give.give_all.Given as goal

abbrev pub invariant-loop-rest : goal.invariant-loop-rest
invariant-loop-rest g l = HasGiven g.H.Host.files g.H.Host.sink l.to l.fn.host l.host l.piece l.rest

abbrev pub decreases-loop-rest : goal.decreases-loop-rest
decreases-loop-rest g l = length l.rest
