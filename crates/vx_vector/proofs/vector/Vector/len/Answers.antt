use Rattle.vx_vector.proofs.ViewLemmas.{rows_seen}
use Rattle.vx_vector.proofs.vector.Vector.len.Goals as goal
use Rattle.std.proofs.Common.{◌∙◌, sym}

pub returns : goal.returns
returns c = c.len.ensures ∙ sym (rows_seen c.self.inside.form c.args.self.now c.self.view_is)
