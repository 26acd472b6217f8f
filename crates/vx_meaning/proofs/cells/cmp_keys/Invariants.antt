use Rattle.std.proofs.Common.{◌≡◌, ◌≤◌, drop, length, ◌-◌}
use Rattle.vx_value.specs.KeyBytes.{key_values}
use Rattle.vx_meaning.specs.Groups.{key_cmp}
use Rattle.vx_meaning.proofs.cells.cmp_keys.Given as goal

abbrev pub invariant-loop-at : goal.invariant-loop-at
invariant-loop-at l = record {
  of_a : l.at ≤ length l.of_a;
  of_b : l.at ≤ length l.of_b;
  rest : key_cmp (key_values (drop l.at l.of_a) l.a) (key_values (drop l.at l.of_b) l.b) ≡ key_cmp (key_values l.of_a l.a) (key_values l.of_b l.b);
}

abbrev pub decreases-loop-at : goal.decreases-loop-at
decreases-loop-at l = length l.of_a - l.at
