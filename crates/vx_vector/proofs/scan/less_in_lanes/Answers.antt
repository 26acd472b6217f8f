use Rattle.std.proofs.Common.{◌+◌, ◌≤◌, ◌∙◌, sym, length, arith, nat_le}
use Rattle.vx_vector.proofs.MarkLemmas.{any_further}
use Rattle.vx_vector.proofs.scan.less_in_lanes.Goals as goal

pub loop-at-preserved : goal.loop-at-preserved
loop-at-preserved c =
    let at = c.loop-at.at in
    let within : at + 16 ≤ length c.args.marks.now = omega arith in
    (within, any_further (nat_le c.args.least) c.args.marks.now at 16 within c.loop-at.invariant.1 (sym c.lanes_reach.ensures ∙ c.if-lanes_reach.false))
