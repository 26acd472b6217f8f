use Rattle.std.proofs.Common.{arith}
use Rattle.std.specs.Vec.{vec_len}
use Rattle.vx_rows.proofs.BodyLemmas.{resized_stored}
use Rattle.vx_rows.proofs.body.empty_body.Goals as goal

pub returns-clause-is : goal.returns-clause-is
returns-clause-is c = resized_stored c.args.layout.now c.resize.new.self.items c.in_ok-body.body.items c.bytes.result c.start.result (vec_len c.in_ok-body.body) c.bytes.ensures.is c.start.ensures.is c.in_ok-body.ensures.len c.in_ok-body.ensures.is c.in_ok-resize.ensures.items (omega (arith, c.start.ensures.is, c.start.ensures.inside))
