use Rattle.vx_records.proofs.Editing.{cleared}
use Rattle.vx_records.proofs.records.Records.clear.Goals as goal

pub returns : goal.returns
returns c = cleared c.self.inside.frames c.args.self.now c.clear.new.self c.self.view_is c.clear.ensures
