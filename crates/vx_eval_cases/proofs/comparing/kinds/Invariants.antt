use Rattle.std.proofs.Common.{◌≡◌, map, take}
use Rattle.vx_vector.specs.Column.{Column}
use Rattle.vx_eval_cases.proofs.comparing.kinds.Given as goal

abbrev pub invariant-loop-column : goal.invariant-loop-column
invariant-loop-column l = l.kinds.items ≡ map (λ (c : Column). c.kind) (take l.column-index l.columns)
