use Rattle.std.proofs.Common.{◌≡◌, ℕ, ◌<◌, length, get_or, false}
use Rattle.std.specs.Prelude.{pos}
use Rattle.vx_value.specs.declared.value.Value.TheVariants.{Int}
use Rattle.vx_expr.specs.Eval as eval
use Rattle.vx_eval.proofs.compare.comparisons.Given as goal

abbrev pub invariant-loop-row : goal.invariant-loop-row
invariant-loop-row g l = record {
  values : length l.values.items ≡ length l.xs;
  done : (k : ℕ) → k < l.row → eval.truth (get_or l.values.items k false) ≡ eval.comparison g.C.Comparison.func (Int (get_or l.xs k (pos 0))) (Int (get_or l.ys k (pos 0)));
}
