use Rattle.std.proofs.Common.{◌∙◌}
use Rattle.vx_records.proofs.Editing.{count_seen}
use Rattle.vx_records.proofs.records.Records.numbers.Goals as goal

pub returns-clause-is : goal.returns-clause-is
returns-clause-is c = c.count.ensures.is ∙ count_seen c.self.inside.frames c.args.self.now c.self.view_is
