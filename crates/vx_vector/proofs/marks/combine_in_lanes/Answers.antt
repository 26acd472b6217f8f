use Rattle.std.proofs.Common.{◌+◌, ◌≤◌, length, arith}
use Rattle.vx_vector.proofs.MarkLemmas.{combined_further}
use Rattle.vx_vector.proofs.marks.combine_in_lanes.Goals as goal

pub loop-left-preserved : goal.loop-left-preserved
loop-left-preserved c =
    let at = c.loop-left.at in
    let within : at + 16 ≤ length c.args.left.now = omega arith in
    (within, combined_further c.args.left.now c.args.right.now c.loop-left.left c.combined_lanes-lanes.result at 16 within c.requires c.loop-left.invariant.1 c.combined_lanes-lanes.ensures)
