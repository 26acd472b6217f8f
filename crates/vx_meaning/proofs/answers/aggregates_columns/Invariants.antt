use Rattle.std.proofs.Common.{◌≡◌, take}
use Rattle.std.specs.Prelude.{sum_by}
use Rattle.vx_plan.specs.Limits.{result_columns}
use Rattle.vx_meaning.proofs.answers.aggregates_columns.Given as goal

abbrev pub invariant-loop-aggregate : goal.invariant-loop-aggregate
invariant-loop-aggregate l = l.count ≡ sum_by (λ a. result_columns l.step a.name) (take l.aggregate-index l.aggregates)
