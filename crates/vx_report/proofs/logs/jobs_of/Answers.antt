use Rattle.std.proofs.Common.{◌∙◌, ap}
use Rattle.vx_report.specs.Ascending.{ascending}
use Rattle.vx_report.proofs.AscendingLaws.{sorted_is_ascending}
use Rattle.vx_report.proofs.logs.jobs_of.Goals as goal

pub returns : goal.returns
returns c =
    sorted_is_ascending _ _ c.sort_unstable.ensures.permutation c.sort_unstable.ensures.sorted ∙ ap ascending c.in_ok-jobs.ensures
