use Rattle.vx_host.specs.declared.host.To.TheVariants.{Output}
use Rattle.vx_engine.proofs.RunLaws.{ends_after_loading, Means-from}
use Rattle.vx_engine.proofs.run.answer.Goals as goal

pub returns-clause-ends : goal.returns-clause-ends
returns-clause-ends g c =
    let loaded = c.in_ok-plan.ensures in
    let answered = c.in_ok-answer.ensures in
    let printed = c.print.ensures in
    ends_after_loading _ (g.H.Host.files c.print.new.host) _ _ _ _ _ _ _ (loaded.sinks Output) loaded.loads (Means-from _ _ answered.rows answered.fault) printed.printed printed.ok printed.front printed.err
