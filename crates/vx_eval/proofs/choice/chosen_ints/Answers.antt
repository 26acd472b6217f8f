use Rattle.std.proofs.Common.{ℕ, ◌<◌, length, false, pos}
use Rattle.vx_value.specs.declared.value.Value.TheVariants as value
use Rattle.vx_eval.proofs.choice.chosen_ints.Goals as goal

pub returns-clause-each : goal.returns-clause-each
returns-clause-each c =
    λ (k : ℕ) (h : k < length c.args.c.now.marks.items).
    rw (c.bools_of.ensures.values, c.bools_of.ensures.marks, c.ints_of.ensures.values, c.ints_of.ensures.marks, c.ints_of-2.ensures.values, c.ints_of-2.ensures.marks) at
    (c.in_ok-values.ensures.each k false (pos 0) (pos 0) (pos 0) (rw c.bools_of.ensures.marks h) value.Int)
