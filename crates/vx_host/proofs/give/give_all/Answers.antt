use Rattle.vx_host.proofs.Giving.{gives_on}
use Rattle.vx_host.proofs.give.give_all.Goals as goal

pub loop-rest-preserved : goal.loop-rest-preserved
loop-rest-preserved g c =
    gives_on c.loop-rest.invariant c.in_ok-count.ensures.ok c.in_ok-count.ensures.cause.later c.in_ok-count.ensures.wanted.later c.in_ok-count.ensures.unfailing.unfailing c.in_ok-count.ensures.others
