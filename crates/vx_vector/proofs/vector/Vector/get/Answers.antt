use Rattle.vx_vector.proofs.ViewLemmas.{rows_seen, value_seen}
use Rattle.vx_vector.proofs.vector.Vector.get.Goals as goal
use Rattle.std.proofs.Common.{◌∙◌, sym, arith}

pub get-requires-clause-row : goal.get-requires-clause-row
get-requires-clause-row c = omega (arith, rows_seen c.self.inside.form c.args.self.now c.self.view_is)

pub returns-clause-is : goal.returns-clause-is
returns-clause-is c = c.get.ensures.is ∙ sym (value_seen c.self.inside.form c.args.self.now c.self.view_is c.args.row c.requires)
