use Rattle.std.proofs.Common.{◌≡◌, map, take}
use Rattle.vx_arb.specs.declared.entries.Look.{Look}
use Rattle.vx_report.proofs.logs.jobs_as_looked_at.Given as goal

abbrev pub invariant-loop-look : goal.invariant-loop-look
invariant-loop-look l = l.jobs.items ≡ map (λ (look : Look). look.job) (take l.look-index l.looks)
