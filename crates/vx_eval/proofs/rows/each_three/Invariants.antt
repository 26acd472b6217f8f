use Rattle.std.proofs.Common.{◌≡◌, ℕ, ◌<◌, length, get_or}
use Rattle.vx_eval.proofs.rows.each_three.Given as goal

abbrev pub invariant-loop-row : goal.invariant-loop-row
invariant-loop-row g l = record {
  values : length l.values.items ≡ length l.c.marks.now;
  marks : length l.marks.items ≡ length l.c.marks.now;
  done : (k : ℕ) (w : g.row.S.Denot) (x : g.row.T.Denot) (y : g.row.U.Denot) (v : g.row.R.Denot) → k < l.row → g.O.Three.Gives (get_or l.c.values.now k w) (get_or l.c.marks.now k 1) (get_or l.a.values.now k x) (get_or l.a.marks.now k 1) (get_or l.b.values.now k y) (get_or l.b.marks.now k 1) (get_or l.values.items k v) (get_or l.marks.items k 1);
}
