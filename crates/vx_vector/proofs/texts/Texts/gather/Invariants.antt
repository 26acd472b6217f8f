use Rattle.std.proofs.Common.{◌≡◌, map, take}
use Rattle.vx_vector.specs.Lane.{text_at}
use Rattle.vx_vector.proofs.texts.Texts.gather.Given as goal

abbrev pub invariant-loop-place : goal.invariant-loop-place
invariant-loop-place l = l.picked ≡ map (text_at l.self) (take l.place-index l.places)
