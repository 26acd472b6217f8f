use Rattle.std.proofs.Common.{◌≡◌, get_or, map, take}
use Rattle.vx_vector.proofs.gather.gathered.Given as goal

abbrev pub invariant-loop-place : goal.invariant-loop-place
invariant-loop-place g l = l.picked.items ≡ map (λ p. get_or l.from p l.other) (take l.place-index l.places)
