-- The text of a plan's section.
use Rattle.std.specs.Prelude.{List, ℕ}
use Rattle.vx_meaning.specs.declared.outcome.SlowAnswer.{SlowAnswer}
use Rattle.vx_meaning.specs.declared.outcome.SlowAnswer.TheVariants.{Rows, Fault}
use Rattle.vx_report.specs.Sections as report
use Rattle.vx_report.specs.declared.outcomes.Cause.TheVariants as cause
use Rattle.vx_report.specs.declared.outcomes.Outcome.{Outcome}
use Rattle.vx_report.specs.declared.outcomes.Outcome.TheVariants as outcome

-- how a query ends whose plan has this answer
abbrev pub outcome_of : SlowAnswer → Outcome
outcome_of (Rows rows) = outcome.Ok rows
outcome_of (Fault node row code) = outcome.Error (cause.Fault node row code)

-- what is printed of a file's plan, which is job 0
abbrev pub section_text : List ℕ → SlowAnswer → List ℕ
section_text name answer = report.section_text 0 name (outcome_of answer)
