use Rattle.std.proofs.Common.{◌≡◌, ◌+◌, ◌≤◌, length, take, vec_len}
use Rattle.std.specs.Vec.{vec_capacity}
use Rattle.std.specs.List.{range_with_len}
use Rattle.vx_rows.specs.Batches.{AddsRows, blocks_of_rows, cost_of_rows}
use Rattle.vx_rows.specs.Container.{Takes}
use Rattle.vx_rows.proofs.container.RowContainer.add_all.Given as goal

abbrev pub invariant-loop-row : goal.invariant-loop-row
invariant-loop-row l = record {
  rows : AddsRows l.batch.columns l.row l.initial.self l.self l.numbers.items;
  few : length l.self.rows ≤ length l.initial.self.rows + l.row;
  takes : Takes l.initial.self.arena l.self.arena (blocks_of_rows l.initial.self.extras l.batch.columns (take l.row (range_with_len 0 l.batch.rows))) (cost_of_rows l.batch.columns (take l.row (range_with_len 0 l.batch.rows)));
  kinds : l.self.kinds ≡ l.initial.self.kinds;
  extras : l.self.extras ≡ l.initial.self.extras;
  count : vec_len l.numbers ≡ l.row;
  room : l.batch.rows ≤ vec_capacity l.numbers;
}
