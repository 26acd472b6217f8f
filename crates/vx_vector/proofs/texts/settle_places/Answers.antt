use Rattle.std.proofs.Common.{arith}
use Rattle.std.proofs.lemmas.List.{get_or_default}
use Rattle.std.proofs.lemmas.List.Edits.{map_over_more}
use Rattle.vx_vector.specs.Place.{settled_place}
use Rattle.vx_vector.proofs.texts.settle_places.Goals as goal

pub loop-place-preserved : goal.loop-place-preserved
loop-place-preserved c = rw c.settled-place.ensures (map_over_more settled_place _ c.loop-place.place-items c.loop-place.place-index _ (omega arith) c.loop-place.invariant (get_or_default c.loop-place.place-items c.loop-place.place-index (record { start = 0; end = 0; mark = 0 }) _ (omega arith)))
