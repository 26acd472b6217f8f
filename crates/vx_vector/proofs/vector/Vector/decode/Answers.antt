use Rattle.vx_vector.proofs.ViewLemmas.{decoded}
use Rattle.vx_vector.proofs.vector.Vector.decode.Goals as goal

pub returns : goal.returns
returns c = decoded c.self.inside.form c.args.self.now c.self.view_is c.in_ok-base.base c.in_ok-base.index.items c.in_ok-base.ensures
