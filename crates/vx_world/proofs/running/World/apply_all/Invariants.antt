use Rattle.std.specs.Prelude.{vec_len, vec_capacity}
use Rattle.vx_world.proofs.Runs.{Loops}
use Rattle.vx_world.proofs.running.World.apply_all.Given as goal

abbrev pub invariant-loop-event : goal.invariant-loop-event
invariant-loop-event g l = Loops g.M.Member l.fn.self l.events l.fn.replies.items l.event-index l.replies.items l.self (vec_len l.fn.replies) (vec_len l.replies) (vec_capacity l.replies)
