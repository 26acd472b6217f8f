use Rattle.std.proofs.Common.{◌≡◌, ◌*◌}
use Rattle.vx_gen.specs.Draws.{state_after}
use Rattle.vx_gen.specs.Rows.{drawn_rows}
use Rattle.vx_gen.proofs.rows.drawn_rows.Given as goal

abbrev pub invariant-loop-i : goal.invariant-loop-i
invariant-loop-i l = record {
  state : l.draws ≡ state_after l.number (2 * l.i);
  rows : l.rows.items ≡ drawn_rows l.number l.i;
}
