use Rattle.vx_vector.proofs.ViewLemmas.{constant_seen}
use Rattle.vx_vector.proofs.vector.Vector.constant.Goals as goal
use Rattle.std.proofs.Common.{◌∙◌, arith}

pub returns : goal.returns
returns c = constant_seen c.args.kind c.args.value.now c.args.len c.in_ok-lanes.lanes c.in_ok-lanes.ensures.kind (c.in_ok-lanes.ensures.at 0 (omega arith) ∙ c.in_ok-copy.ensures)
