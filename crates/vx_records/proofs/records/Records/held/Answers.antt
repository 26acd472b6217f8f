use Rattle.std.proofs.Common.{◌∙◌}
use Rattle.vx_records.proofs.Editing.{held_records}
use Rattle.vx_records.proofs.records.Records.held.Goals as goal

pub returns : goal.returns
returns c = c.held.ensures ∙ held_records c.self.inside.frames c.self.inside.free c.args.self.now c.self.invariant c.self.view_is
