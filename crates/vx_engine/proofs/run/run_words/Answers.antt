use Rattle.std.proofs.Common.{◌≡◌, Some, rules}
use Rattle.vx_host.specs.declared.host.To.TheVariants.{Output, Errors}
use Rattle.vx_engine.specs.Words.{name_of}
use Rattle.vx_engine.proofs.RunLaws.{IsRun-from_Ran}
use Rattle.vx_engine.proofs.run.run_words.Goals as goal

-- a run over a named file is one of its status
pub returns-in-Ok : goal.returns-in-Ok
returns-in-Ok g c =
    let named : name_of c.args.words.now ≡ Some c.as_str.result.now = search rules in
    let ran = c.run_file-outcome in
    record {
      run = IsRun-from_Ran (name_of c.args.words.now) (g.H.Host.files c.args.host.now) (g.H.Host.files ran.new.host)
          (g.H.Host.sink c.args.host.now Output) (g.H.Host.sink ran.new.host Output)
          (g.H.Host.sink c.args.host.now Errors) (g.H.Host.sink ran.new.host Errors)
          c.as_str.result.now ran.result c.status_of_run.result named c.status_of_run.ensures ran.ensures.ran;
    }
