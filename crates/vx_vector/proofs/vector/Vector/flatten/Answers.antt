use Rattle.vx_vector.proofs.ViewLemmas.{flattened}
use Rattle.vx_vector.proofs.vector.Vector.flatten.Goals as goal

pub returns : goal.returns
returns c = flattened c.self.inside.form c.args.self.now c.self.view_is c.in_ok-lanes.lanes c.in_ok-lanes.ensures
