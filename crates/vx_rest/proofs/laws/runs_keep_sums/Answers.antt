use Rattle.vx_rest.proofs.laws.runs_keep_sums.Goals as goal
use Rattle.vx_rest.proofs.SumLaw.{run_most, counted_sums}
use Rattle.vx_rest.proofs.SumTells.{leave_room, have_room}

pub returns-clause-most : goal.returns-clause-most
returns-clause-most c = run_most

pub returns-clause-sums : goal.returns-clause-sums
returns-clause-sums c = counted_sums

pub returns-clause-room : goal.returns-clause-room
returns-clause-room c = leave_room

pub returns-clause-builds : goal.returns-clause-builds
returns-clause-builds c = have_room
