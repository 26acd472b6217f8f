use Rattle.std.proofs.Common.{ℕ, ◌<◌, length, false}
use Rattle.vx_value.specs.declared.value.Value.TheVariants as value
use Rattle.vx_eval.proofs.choice.chosen_bools.Goals as goal

pub returns-clause-each : goal.returns-clause-each
returns-clause-each c =
    λ (k : ℕ) (h : k < length c.args.c.now.marks.items).
    rw (c.bools_of.ensures.values, c.bools_of.ensures.marks, c.bools_of-2.ensures.values, c.bools_of-2.ensures.marks, c.bools_of-3.ensures.values, c.bools_of-3.ensures.marks) at
    (c.in_ok-values.ensures.each k false false false false (rw c.bools_of.ensures.marks h) value.Bool)
