use Rattle.std.proofs.Common.{arith}
use Rattle.std.proofs.lemmas.Grind.{common_steps}
use Rattle.vx_report.proofs.TextLaws.{listed-cons}
use Rattle.vx_report.proofs.logs.push_jobs.Goals as goal

-- a first number, and the others with commas
pub returns-in_ok-push_field-in-Some : goal.returns-in_ok-push_field-in-Some
returns-in_ok-push_field-in-Some c = rw (c.in-Some.ensures.cases.0, listed-cons) (grind (arith, common_steps))
