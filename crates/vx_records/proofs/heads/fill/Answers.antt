use Rattle.vx_records.proofs.Heading.{fills}
use Rattle.vx_records.proofs.heads.fill.Goals as goal

pub returns : goal.returns
returns c = fills c.args.frames.now c.put.new.self c.put-2.new.self c.args.number c.head.result c.args.body.now c.requires.there c.requires.long c.requires.all c.head.ensures c.put.ensures c.put-2.ensures
