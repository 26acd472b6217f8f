use Rattle.std.proofs.Common.{All, subst}
use Rattle.std.proofs.lemmas.List.{take_all}
use Rattle.std.proofs.lemmas.List.Elements.{All-more}
use Rattle.vx_world.specs.Scenes.{Fits}
use Rattle.vx_world.proofs.seats.all_fit.Goals as goal

pub loop-member-preserved : goal.loop-member-preserved
loop-member-preserved g c =
    All-more (Fits g.M.Member) c.args.members.now c.loop-member.member-index c.member-item.result c.loop-member-test.true c.loop-member.invariant
    (subst (Fits g.M.Member) c.member-item.is c.capacity.ensures.rule)

pub returns : goal.returns
returns g c =
    subst (All (Fits g.M.Member)) (take_all c.loop-member.member-index c.args.members.now c.loop-member-test.false) c.loop-member.invariant
