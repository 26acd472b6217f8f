use Rattle.std.proofs.Common.{◌≡◌, take, All, Equal}
use Rattle.vx_value.specs.KeyBytes.{key_values}
use Rattle.vx_meaning.specs.Groups.{key_cmp}
use Rattle.vx_meaning.proofs.grouping.run_length.Given as goal

abbrev pub invariant-loop-row : goal.invariant-loop-row
invariant-loop-row l = record {
  at : l.count ≡ l.row-index;
  same : All (λ row. key_cmp (key_values l.keys l.first) (key_values l.keys row) ≡ Equal) (take l.row-index l.rows);
}
