use Rattle.std.proofs.Common.{All, subst}
use Rattle.vx_world.specs.Scenes.{Fits}
use Rattle.vx_world.proofs.Starting.{world_new}
use Rattle.vx_world.proofs.running.World.new.Goals as goal

pub invariant_of-result : goal.invariant_of-result
invariant_of-result g c =
    world_new g.M.Member c.args.arb c.args.members.items c.total-total.ensures.rule c.requires.quiet c.requires.none c.requires.apart c.requires.bare
    (subst (All (Fits g.M.Member)) c.deref.ensures.value c.all_fit.ensures)

pub returns-clause-rule : goal.returns-clause-rule
returns-clause-rule g c = invariant_of-result g c
