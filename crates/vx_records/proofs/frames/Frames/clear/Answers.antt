use Rattle.vx_records.proofs.Growing.{cleared_seen}
use Rattle.vx_records.proofs.frames.Frames.clear.Goals as goal

pub returns : goal.returns
returns c = cleared_seen c.self.inside.size c.self.inside.region c.self.inside.count c.args.self.now c.new.result c.self.view_is c.new.ensures
