use Rattle.std.proofs.Common.{◌≡◌, ℕ, ◌<◌, length, get_or}
use Rattle.vx_eval.proofs.rows.each_one.Given as goal

abbrev pub invariant-loop-row : goal.invariant-loop-row
invariant-loop-row g l = record {
  values : length l.values.items ≡ length l.marks;
  given : length l.given.items ≡ length l.marks;
  done : (k : ℕ) (x : g.row.T.Denot) (v : g.row.R.Denot) → k < l.row → g.O.One.Gives (get_or l.xs k x) (get_or l.marks k 1) (get_or l.values.items k v) (get_or l.given.items k 1);
}
