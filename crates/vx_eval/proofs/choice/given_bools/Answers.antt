use Rattle.std.proofs.Common.{ℕ, ◌<◌, length, refl, Bool, false}
use Rattle.vx_value.specs.declared.value.Value.TheVariants as value
use Rattle.vx_eval.proofs.choice.given_bools.Goals as goal

pub returns-clause-each : goal.returns-clause-each
returns-clause-each c =
    λ (k : ℕ) (h : k < length c.args.a.now.marks.items).
    rw (c.as_slice.ensures.value, c.as_slice-2.ensures.value, c.as_slice-3.ensures.value, c.as_slice-4.ensures.value) at
    (c.in_ok-values.ensures.each k false false false (rw c.as_slice-2.ensures.value h) value.Bool (λ (z : Bool). refl))
