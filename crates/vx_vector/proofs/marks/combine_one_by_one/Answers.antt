use Rattle.std.proofs.Common.{arith}
use Rattle.vx_vector.proofs.MarkLemmas.{combined_more}
use Rattle.vx_vector.proofs.marks.combine_one_by_one.Goals as goal

pub loop-row-preserved : goal.loop-row-preserved
loop-row-preserved c = rw c.combined.ensures (combined_more c.args.left.now c.args.right.now c.loop-row.left c.loop-row.row (omega arith) c.requires c.loop-row.invariant)
