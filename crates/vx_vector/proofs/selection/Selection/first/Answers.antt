use Rattle.std.proofs.Common.{refl, arith}
use Rattle.vx_vector.proofs.SelectionLemmas.{range_more, range_is_selection}
use Rattle.vx_vector.proofs.selection.Selection.first.Goals as goal

pub loop-place-preserved : goal.loop-place-preserved
loop-place-preserved c = rw (c.in_ok-push.ensures.items, c.loop-place.invariant, range_more 0 c.loop-place.place c.loop-place.place (omega arith)) refl

pub invariant_of-result : goal.invariant_of-result
invariant_of-result c = range_is_selection _ _ c.loop-place.invariant
