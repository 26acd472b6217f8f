use Rattle.std.specs.Prelude.{All, take}
use Rattle.vx_world.specs.Scenes.{Fits}
use Rattle.vx_world.proofs.seats.all_fit.Given as goal

abbrev pub invariant-loop-member : goal.invariant-loop-member
invariant-loop-member g l = All (Fits g.M.Member) (take l.member-index l.members)
