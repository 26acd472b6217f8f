use Rattle.std.proofs.Common.{arith}
use Rattle.std.proofs.lemmas.List.{get_or_default}
use Rattle.std.proofs.lemmas.List.Edits.{map_over_more}
use Rattle.vx_vector.proofs.marks.rewrite_one_by_one.Goals as goal

pub loop-mark-preserved : goal.loop-mark-preserved
loop-mark-preserved g c = rw c.one.ensures (map_over_more g.R.Rewrite.becomes _ c.loop-mark.marks c.loop-mark.mark-index _ (omega arith) c.loop-mark.invariant (get_or_default c.loop-mark.marks c.loop-mark.mark-index 0 _ (omega arith)))
