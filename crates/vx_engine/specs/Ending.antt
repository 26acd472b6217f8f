-- How the parts of a run end, by the cases of what they answer.
use Rattle.std.specs.Prelude.{◌≡◌, ◌⊎◌, ℕ, ◌≤◌, List, true, Result, Ok, Err}
use Rattle.vx_base.specs.Causes.{Rose}
use Rattle.vx_host.specs.Views.{SinkView, FilesView}
use Rattle.vx_host.specs.Host.{IsAbsent, IsTooBig, KeepsFiles}
use Rattle.vx_plan.specs.declared.node.Plan.{Plan}
use Rattle.vx_json.specs.Outcome.{said_of}
use Rattle.vx_engine.specs.Run.{file_limit, IsPlanOf, PrintsRows, PrintsFault, PrintsFront, Says, GoesOn}
use Rattle.vx_engine.specs.Stop.{status_of, line_of}
use Rattle.vx_meaning.specs.declared.outcome.SlowAnswer.{SlowAnswer}
use Rattle.vx_meaning.specs.declared.outcome.SlowAnswer.TheVariants as slow
use Rattle.vx_engine.specs.declared.print.Printed.{Printed}
use Rattle.vx_engine.specs.declared.print.Printed.TheVariants.{Rows, Fault}
use Rattle.vx_engine.specs.declared.stop.Stop.{Stop}
use Rattle.vx_engine.specs.declared.stop.Stop.TheVariants.{NotRead, TooBig, Refused, NotWritten, NoMemory}

-- why no plan was loaded
abbrev pub StopsLoading : FilesView → FilesView → List ℕ → Stop → Type 0
StopsLoading before after name NotRead = Rose before.faults after.faults × (before.unfailing ≡ true → IsAbsent before name)
StopsLoading before after name TooBig = IsTooBig before name file_limit
StopsLoading before after name (Refused refusal) = IsPlanOf before name (Err (said_of refusal))
StopsLoading before after name NotWritten = ⊥
StopsLoading before after name NoMemory = Unit {0}

-- a plan was loaded, or not for this cause
abbrev pub Loads : FilesView → FilesView → List ℕ → Result Plan Stop → Type 0
Loads before after name (Ok plan) = IsPlanOf before name (Ok plan)
Loads before after name (Err stop) = StopsLoading before after name stop

-- why the output wasn't written whole
abbrev pub StopsPrinting : SinkView → SinkView → Stop → Type 0
StopsPrinting before after NotWritten = Rose before.faults after.faults × (before.unfailing ≡ true → ⊥)
StopsPrinting before after NoMemory = Unit {0}
StopsPrinting before after NotRead = ⊥
StopsPrinting before after TooBig = ⊥
StopsPrinting before after (Refused refusal) = ⊥

-- what a section of this answer holds
abbrev pub printed_of : SlowAnswer → Printed
printed_of (slow.Rows rows) = Rows
printed_of (slow.Fault node row code) = Fault

-- how a run over a named file ends
abbrev pub Ends : FilesView → FilesView → SinkView → SinkView → List ℕ → Result Printed Stop → Type 0
Ends before after out out' name (Ok Rows) = PrintsRows before out out' name
Ends before after out out' name (Ok Fault) = PrintsFault before out out' name
Ends before after out out' name (Err NotRead) = StopsLoading before after name NotRead × (out' ≡ out)
Ends before after out out' name (Err TooBig) = StopsLoading before after name TooBig × (out' ≡ out)
Ends before after out out' name (Err (Refused refusal)) = StopsLoading before after name (Refused refusal) × (out' ≡ out)
Ends before after out out' name (Err NotWritten) = StopsPrinting out out' NotWritten × PrintsFront before out out' name
Ends before after out out' name (Err NoMemory) = (out' ≡ out) ⊎ PrintsFront before out out' name

-- the status of a run that ended so
abbrev pub status_of_run : Result Printed Stop → ℕ
status_of_run (Ok Rows) = 0
status_of_run (Ok Fault) = 1
status_of_run (Err stop) = status_of stop

-- what a run that ended so did to err
abbrev pub Reports : SinkView → SinkView → List ℕ → Result Printed Stop → Type 0
Reports err err' name (Ok printed) = err' ≡ err
Reports err err' name (Err NotRead) = Says err err' (line_of name NotRead)
Reports err err' name (Err TooBig) = Says err err' (line_of name TooBig)
Reports err err' name (Err (Refused refusal)) = Says err err' (line_of name (Refused refusal))
Reports err err' name (Err NotWritten) = err' ≡ err
Reports err err' name (Err NoMemory) = Says err err' (line_of name NoMemory)

-- all that a run over a named file did
pub record Ran (files files' : FilesView) (out out' err err' : SinkView) (name : List ℕ) (result : Result Printed Stop) : Type 0 where
  pub ends : Ends files files' out out' name result
  pub reports : Reports err err' name result
  pub files_stay : KeepsFiles files files'
  pub files_later : files.faults ≤ files'.faults
  pub out_later : GoesOn out out'
  pub err_later : GoesOn err err'
