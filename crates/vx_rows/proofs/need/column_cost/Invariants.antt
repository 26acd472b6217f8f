use Rattle.std.proofs.Common.{◌≡◌, ◌*◌, ◌^◌, ◌≤◌, take}
use Rattle.std.specs.List.{sum_by}
use Rattle.vx_rows.specs.Texts.{text_cost}
use Rattle.vx_rows.proofs.need.column_cost.Given as goal

abbrev pub invariant-loop-row : goal.invariant-loop-row
invariant-loop-row l = record {
  is : l.total ≡ sum_by text_cost (take l.row l.column.values);
  most : l.total ≤ l.row * 2 ^ 17;
}
