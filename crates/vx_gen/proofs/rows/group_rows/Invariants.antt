use Rattle.std.proofs.Common.{◌≡◌}
use Rattle.vx_gen.specs.Rows.{group_rows}
use Rattle.vx_gen.proofs.rows.group_rows.Given as goal

abbrev pub invariant-loop-group : goal.invariant-loop-group
invariant-loop-group l = l.rows.items ≡ group_rows l.group
