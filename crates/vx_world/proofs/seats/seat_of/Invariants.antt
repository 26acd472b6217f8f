use Rattle.std.proofs.Common.{◌≤◌}
use Rattle.vx_world.proofs.Turning.{seat}
use Rattle.vx_world.proofs.seats.seat_of.Given as goal

abbrev pub invariant-loop-place : goal.invariant-loop-place
invariant-loop-place g l = l.place ≤ seat g.M.Member l.members l.job
