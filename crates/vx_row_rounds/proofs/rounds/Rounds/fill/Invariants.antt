use Rattle.std.proofs.Common.{◌≡◌}
use Rattle.vx_vector.specs.Batch.{kinds_of}
use Rattle.vx_row_rounds.specs.Rounds.{AreKept, AreTwo}
use Rattle.vx_row_rounds.proofs.rounds.Rounds.fill.Given as goal

abbrev pub invariant-loop : goal.invariant-loop
invariant-loop l = record {
  kept : AreKept l.self.container.rows l.self.numbers.items;
  kinds : kinds_of l.self.batch.columns ≡ l.self.container.kinds;
  rows : l.self.batch.rows ≡ 1000;
  two : AreTwo l.self.batch.columns;
}
