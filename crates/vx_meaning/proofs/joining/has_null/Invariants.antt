use Rattle.std.proofs.Common.{◌≡◌, drop}
use Rattle.std.specs.List.{list_any}
use Rattle.vx_value.specs.KeyBytes.{key_values}
use Rattle.vx_value.specs.Value.{is_null}
use Rattle.vx_meaning.proofs.joining.has_null.Given as goal

abbrev pub invariant-loop-column : goal.invariant-loop-column
invariant-loop-column l = list_any is_null (key_values (drop l.column-index l.columns) l.row) ≡ list_any is_null (key_values l.columns l.row)
