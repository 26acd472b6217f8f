use Rattle.std.proofs.Common.{rules}
use Rattle.vx_plan.specs.Tree.{tree}
use Rattle.vx_meaning.proofs.LineLaws.{Faulty-from_first}
use Rattle.vx_meaning.proofs.answers.slow_answer_of.Goals as goal

pub returns-in-Err-Fault-clause-fault : goal.returns-in-Err-Fault-clause-fault
returns-in-Err-Fault-clause-fault c = Faulty-from_first (tree c.args.plan.root) c.in-Err-Fault.node c.in-Err-Fault.row c.in-Err-Fault.code (search rules)
