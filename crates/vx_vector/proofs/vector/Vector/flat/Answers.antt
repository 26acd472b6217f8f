use Rattle.vx_vector.proofs.ViewLemmas.{flat_seen}
use Rattle.vx_vector.proofs.vector.Vector.flat.Goals as goal

pub returns : goal.returns
returns c = flat_seen c.args.kind c.args.values.now c.in_ok-lanes.lanes c.in_ok-lanes.ensures.kind c.in_ok-lanes.ensures.rows c.in_ok-lanes.ensures.at
