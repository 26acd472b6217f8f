use Rattle.std.proofs.Common.{ℕ, ap, ◌∙◌}
use Rattle.vx_records.specs.Head.{number_of}
use Rattle.vx_records.proofs.Editing.{there, next_read}
use Rattle.vx_records.proofs.records.Records.next.Goals as goal

pub link-requires-clause-there : goal.link-requires-clause-there
link-requires-clause-there c = there c.self.inside.frames c.self.inside.free c.args.self.now c.args.number c.self.invariant c.self.view_is c.requires

pub returns-clause-is : goal.returns-clause-is
returns-clause-is c = c.number_of.ensures.is ∙ (ap (λ (l : ℕ). number_of l) c.link.ensures ∙ next_read c.self.inside.frames c.self.inside.free c.args.self.now c.args.number c.self.invariant c.self.view_is c.requires)
