use Rattle.std.proofs.Common.{◌-◌, take, drop, ℕ, ap, ◌∙◌}
use Rattle.vx_records.specs.Frame.{frame_at}
use Rattle.vx_records.proofs.Editing.{there, body_read, body_len}
use Rattle.vx_records.proofs.records.Records.body.Goals as goal

pub bytes-requires-clause-there : goal.bytes-requires-clause-there
bytes-requires-clause-there c = there c.self.inside.frames c.self.inside.free c.args.self.now c.args.number c.self.invariant c.self.view_is c.requires

pub returns-clause-is : goal.returns-clause-is
returns-clause-is c = c.bytes.ensures.is ∙ (ap (λ (n : ℕ). take (n - 8) (drop 8 (frame_at c.self.inside.frames c.args.number))) c.size.ensures.is ∙ body_read c.self.inside.frames c.self.inside.free c.args.self.now c.args.number c.self.invariant c.self.view_is c.requires)

pub returns-clause-len : goal.returns-clause-len
returns-clause-len c = c.bytes.ensures.len ∙ (ap (λ (n : ℕ). n - 8) c.size.ensures.is ∙ body_len c.self.inside.frames c.self.inside.free c.args.self.now c.args.number c.self.invariant c.self.view_is c.requires)
