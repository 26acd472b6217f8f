use Rattle.std.proofs.Common.{◌≤◌}
use Rattle.vx_board.specs.Seats.{IsSeatOf}
use Rattle.bench_board.proofs.rounds.run.Given as goal

abbrev pub invariant-loop-turn : goal.invariant-loop-turn
invariant-loop-turn l = record {
  won : l.won ≤ l.turn;
  seat : IsSeatOf l.board l.seat;
}
