use Rattle.std.proofs.Common.{ℕ, Option, is_some, ◌∙◌, ap}
use Rattle.vx_world.proofs.Finding.{test_there}
use Rattle.vx_world.proofs.seats.is_there.Goals as goal

pub returns : goal.returns
returns g c = c.is_some.ensures ∙ ap (λ (o : Option ℕ). is_some o) c.seat_of.ensures ∙ test_there g.M.Member c.args.members.now c.args.job
