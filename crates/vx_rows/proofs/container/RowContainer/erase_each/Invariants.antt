use Rattle.std.proofs.Common.{◌≡◌, take}
use Rattle.std.specs.List.{sum_by}
use Rattle.vx_rows.specs.Batches.{Erases}
use Rattle.vx_rows.specs.Container.{Gives, blocks_of_row, live}
use Rattle.vx_rows.proofs.container.RowContainer.erase_each.Given as goal

abbrev pub invariant-loop-number : goal.invariant-loop-number
invariant-loop-number l = record {
  rows : Erases l.numbers l.number-index l.initial.self l.self;
  gives : Gives l.initial.self.arena l.self.arena (sum_by (λ n. blocks_of_row (live l.initial.self n)) (take l.number-index l.numbers));
  kinds : l.self.kinds ≡ l.initial.self.kinds;
  extras : l.self.extras ≡ l.initial.self.extras;
}
