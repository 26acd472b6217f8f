use Rattle.std.proofs.Common.{◌∙◌, ap}
use Rattle.vx_pool.specs.Pools.{Pools, reserved_of}
use Rattle.vx_world.proofs.Leaves.{emptied_none}
use Rattle.vx_world.proofs.plain.PlainMember.give_back.Goals as goal

pub returns-clause-none : goal.returns-clause-none
returns-clause-none g c = ap (λ (pools : Pools). reserved_of pools 0) c.empty.ensures.is ∙ emptied_none c.self.inside.tree c.self.invariant.small c.self.invariant.settled
