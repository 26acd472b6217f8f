use Rattle.std.proofs.Common.{◌≡◌, ◌++◌, take}
use Rattle.vx_report.specs.Logs.{listed_after}
use Rattle.vx_report.proofs.logs.push_more_jobs.Given as goal

abbrev pub invariant-loop-job : goal.invariant-loop-job
invariant-loop-job l = l.text.items ≡ l.initial.text.items ++ listed_after (take l.job-index l.jobs)
