use Rattle.std.proofs.Common.{◌≡◌, take}
use Rattle.vx_value.specs.KeyBytes as spec
use Rattle.vx_value.proofs.keys.key_bytes.Given as goal

abbrev pub invariant-loop-column : goal.invariant-loop-column
invariant-loop-column l =
    (l.bytes.items ≡ spec.key_bytes (take l.column-index l.columns) l.row)
    × spec.AreLawful (take l.column-index l.columns) l.row
