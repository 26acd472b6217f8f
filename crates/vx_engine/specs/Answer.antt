-- What a run answers of a plan.
use Rattle.vx_plan.specs.declared.node.Plan.{Plan}
use Rattle.vx_plan.specs.Tree.{tree}
use Rattle.vx_meaning.specs.Answer.{Answers}
use Rattle.vx_meaning.specs.Faulty.{Faulty}
use Rattle.vx_meaning.specs.declared.outcome.SlowAnswer.{SlowAnswer}
use Rattle.vx_meaning.specs.declared.outcome.SlowAnswer.TheVariants.{Rows, Fault}

-- rows are an answer of the plan, and a fault is one that the plan can meet
abbrev pub Means : Plan → SlowAnswer → Type 0
Means plan (Rows rows) = Answers (tree plan.root) rows
Means plan (Fault node row code) = Faulty (tree plan.root) node row code
