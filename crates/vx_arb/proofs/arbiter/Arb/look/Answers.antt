use Rattle.vx_arb.proofs.Aborts.{look_fits, stands_looked}
use Rattle.vx_arb.proofs.arbiter.Arb.look.Goals as goal

pub put-requires : goal.put-requires
put-requires g c = λ lacking. look_fits c.args.self.now c.args.request.now c.job.result c.requires.stands (rw c.job.ensures.is c.requires.live) lacking

pub returns-clause-stands : goal.returns-clause-stands
returns-clause-stands g c =
    rw c.put.ensures
    (stands_looked c.args.self.now c.args.request.now (record { job = c.job.result; unused = c.unused.result; reclaimable = c.reclaimable.result }) c.requires.stands (rw c.job.ensures.is c.requires.live))
