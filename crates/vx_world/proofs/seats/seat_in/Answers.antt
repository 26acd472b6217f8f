use Rattle.std.proofs.Common.{ℕ, Option, IsSome, sym, subst}
use Rattle.vx_world.proofs.Finding.{seat_there}
use Rattle.vx_world.proofs.seats.seat_in.Goals as goal

pub unwrap-requires : goal.unwrap-requires
unwrap-requires g c = subst (λ (o : Option ℕ). IsSome o) (sym c.seat_of.ensures) (seat_there g.M.Member c.args.members.now c.args.job c.requires)
