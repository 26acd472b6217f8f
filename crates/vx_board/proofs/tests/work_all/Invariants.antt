use Rattle.vx_board.specs.Seats.{IsSeatOf}
use Rattle.vx_board.proofs.tests.work_all.Given as goal

abbrev pub invariant-loop-job : goal.invariant-loop-job
invariant-loop-job l = IsSeatOf l.board l.seat

abbrev pub invariant-loop-turn : goal.invariant-loop-turn
invariant-loop-turn l = IsSeatOf l.board l.seat
