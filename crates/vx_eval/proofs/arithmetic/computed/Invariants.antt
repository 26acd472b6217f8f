use Rattle.std.proofs.Common.{◌≡◌, ℕ, ◌<◌, ◌≤◌, length, get_or}
use Rattle.std.specs.Prelude.{pos}
use Rattle.vx_value.specs.declared.value.Value.TheVariants.{Int}
use Rattle.vx_expr.specs.declared.outcome.Got.TheVariants as got
use Rattle.vx_eval.proofs.arithmetic.computed.Given as goal

abbrev pub invariant-loop-row : goal.invariant-loop-row
invariant-loop-row g l = record {
  values : length l.values.items ≡ length l.xs;
  few : l.faults ≤ l.row;
  done : l.faults ≡ 0 → (k : ℕ) → k < l.row → got.Value (Int (get_or l.values.items k (pos 0))) ≡ g.O.IntOp.meaning (get_or l.xs k (pos 0)) (get_or l.ys k (pos 0));
}
