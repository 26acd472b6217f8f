use Rattle.std.proofs.Common.{ℕ, ◌%◌, eqb, ap, ◌∙◌, arith}
use Rattle.vx_records.proofs.Editing.{none_live, live_read}
use Rattle.vx_records.proofs.records.Records.is_live.Goals as goal

pub returns-then-number-count : goal.returns-then-number-count
returns-then-number-count c = none_live c.self.inside.frames c.args.self.now c.args.number c.self.view_is (omega (arith, c.count.ensures.is, c.if-number-count.true))

pub returns : goal.returns
returns c = c.is_live.ensures ∙ (ap (λ (f : ℕ). eqb (f % 2) 1) c.flags.ensures ∙ live_read c.self.inside.frames c.args.self.now c.args.number c.self.view_is (omega (arith, c.count.ensures.is, c.if-number-count.false)))
