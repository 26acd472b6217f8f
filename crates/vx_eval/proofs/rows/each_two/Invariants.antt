use Rattle.std.proofs.Common.{◌≡◌, ℕ, ◌<◌, length, get_or}
use Rattle.vx_eval.proofs.rows.each_two.Given as goal

abbrev pub invariant-loop-row : goal.invariant-loop-row
invariant-loop-row g l = record {
  values : length l.values.items ≡ length l.left;
  marks : length l.marks.items ≡ length l.left;
  done : (k : ℕ) (x : g.row.T.Denot) (y : g.row.U.Denot) (v : g.row.R.Denot) → k < l.row → g.O.Two.Gives (get_or l.xs k x) (get_or l.left k 1) (get_or l.ys k y) (get_or l.right k 1) (get_or l.values.items k v) (get_or l.marks.items k 1);
}
