use Rattle.std.proofs.Common.{◌∙◌}
use Rattle.vx_records.proofs.Growing.{held_seen}
use Rattle.vx_records.proofs.frames.Frames.held.Goals as goal

pub returns : goal.returns
returns c = c.held.ensures.is ∙ held_seen c.self.inside.size c.self.inside.per c.self.inside.region c.self.inside.count c.args.self.now c.self.invariant c.self.view_is
