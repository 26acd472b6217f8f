use Rattle.std.proofs.Common.{◌≡◌, ◌+◌, arith}
use Rattle.std.proofs.lemmas.Grind.{common_steps}
use Rattle.vx_report.specs.Logs.{entry_line}
use Rattle.vx_report.proofs.TextLaws.{numbered_more}
use Rattle.vx_report.proofs.logs.push_entries.Goals as goal

pub loop-number-preserved : goal.loop-number-preserved
loop-number-preserved c =
    let number : 0 + c.loop-number.number ≡ c.loop-number.number = omega arith in
    rw (numbered_more entry_line 0 c.args.log.now c.loop-number.number c.index-log-number.result c.loop-number-test.true c.index-log-number.is, number)
    (grind (arith, common_steps))
