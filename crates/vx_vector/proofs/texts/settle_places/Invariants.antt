use Rattle.std.proofs.Common.{◌≡◌, map, take, drop, ◌++◌}
use Rattle.vx_vector.specs.Place.{settled_place}
use Rattle.vx_vector.proofs.texts.settle_places.Given as goal

abbrev pub invariant-loop-place : goal.invariant-loop-place
invariant-loop-place l = l.place-items ≡ map settled_place (take l.place-index l.initial.place-items) ++ drop l.place-index l.initial.place-items
