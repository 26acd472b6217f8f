use Rattle.vx_records.proofs.Placing.{placed}
use Rattle.vx_records.proofs.frames.place.Goals as goal

pub returns : goal.returns
returns c = placed c.args.size c.args.per c.args.number c.from.result c.from-2.result c.requires.per_is c.from.ensures c.from-2.ensures
