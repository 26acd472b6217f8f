use Rattle.vx_records.proofs.Placing.{seen_count}
use Rattle.vx_records.proofs.Growing.{few_frames}
use Rattle.vx_records.proofs.frames.Frames.count.Goals as goal

pub returns-clause-is : goal.returns-clause-is
returns-clause-is c = seen_count c.self.inside.size c.self.inside.region c.self.inside.count c.args.self.now c.self.view_is

pub returns-clause-most : goal.returns-clause-most
returns-clause-most c = few_frames c.self.inside.size c.self.inside.per c.self.inside.region c.self.inside.count c.self.invariant
