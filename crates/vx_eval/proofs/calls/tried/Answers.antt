use Rattle.std.specs.Cow.{cow_value}
use Rattle.vx_eval.proofs.MarkLemmas.{tried_rows}
use Rattle.vx_eval.proofs.calls.tried.Goals as goal

pub returns-clause-each : goal.returns-clause-each
returns-clause-each c = tried_rows (cow_value c.args.a) c.in_ok-lanes.lanes c.settle.new.self c.in_ok-lanes.ensures c.settle.ensures
