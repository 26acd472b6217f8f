use Rattle.std.proofs.Common.{ℕ, ◌/◌, ◌%◌, eqb, ap, ◌∙◌}
use Rattle.vx_records.proofs.Editing.{there, matched_read}
use Rattle.vx_records.proofs.records.Records.matched.Goals as goal

pub flags-requires-clause-there : goal.flags-requires-clause-there
flags-requires-clause-there c = there c.self.inside.frames c.self.inside.free c.args.self.now c.args.number c.self.invariant c.self.view_is c.requires

pub returns : goal.returns
returns c = c.is_matched.ensures ∙ (ap (λ (f : ℕ). eqb (f / 2 % 2) 1) c.flags.ensures ∙ matched_read c.self.inside.frames c.self.inside.free c.args.self.now c.args.number c.self.invariant c.self.view_is c.requires)
