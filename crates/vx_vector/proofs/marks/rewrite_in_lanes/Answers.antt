use Rattle.std.proofs.Common.{◌+◌, ◌≤◌, length, arith}
use Rattle.vx_vector.proofs.LaneLemmas.{mapped_further}
use Rattle.vx_vector.proofs.marks.rewrite_in_lanes.Goals as goal

pub loop-marks-preserved : goal.loop-marks-preserved
loop-marks-preserved g c =
    let at = c.loop-marks.at in
    let within : at + 16 ≤ length c.args.marks.now = omega arith in
    (within, mapped_further g.R.Rewrite.becomes c.args.marks.now c.loop-marks.marks c.lanes-lanes.result at 16 within c.loop-marks.invariant.1 c.lanes-lanes.ensures)
