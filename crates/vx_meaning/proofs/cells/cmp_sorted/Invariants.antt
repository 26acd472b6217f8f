use Rattle.std.proofs.Common.{◌≡◌, drop}
use Rattle.vx_value.specs.Order as spec
use Rattle.vx_meaning.proofs.cells.cmp_sorted.Given as goal

abbrev pub invariant-loop-key : goal.invariant-loop-key
invariant-loop-key l = spec.cmp_rows (drop l.key-index l.keys) l.a l.b ≡ spec.cmp_rows l.keys l.a l.b
