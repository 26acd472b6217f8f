use Rattle.std.proofs.Common.{◌≡◌, ◌*◌, ◌^◌, ◌≤◌, take}
use Rattle.std.specs.List.{sum_by}
use Rattle.vx_rows.specs.Need.{column_cost}
use Rattle.vx_rows.proofs.need.texts_cost.Given as goal

abbrev pub invariant-loop-column : goal.invariant-loop-column
invariant-loop-column l = record {
  is : l.total ≡ sum_by column_cost (take l.column-index l.columns);
  most : l.total ≤ l.column-index * 2 ^ 49;
}
