-- What a run over a named file did, put together from what its parts did.
use Rattle.std.proofs.Common.{◌≡◌, ℕ, Bool, true, false, List, [], Option, Some, None, IfSome, option_and_then, if◌then◌else◌, Result, Ok, Err, OnOk, OnErr, IfOk, IfErr, refl, subst, inr, rules}
use Rattle.std.specs.List.{slice_index_or}
use Rattle.vx_words.specs.Settings.{Settings}
use Rattle.vx_engine.specs.Words.{AsksForUnbuilt, asks_for_unbuilt, file_of}
use Rattle.vx_base.specs.Told.{gained}
use Rattle.vx_host.specs.Sink.{GainsPart}
use Rattle.vx_host.specs.Views.{SinkView, FilesView}
use Rattle.vx_plan.specs.declared.node.Plan.{Plan}
use Rattle.vx_meaning.specs.declared.outcome.SlowAnswer.{SlowAnswer}
use Rattle.vx_meaning.specs.declared.outcome.SlowAnswer.TheVariants as slow
use Rattle.vx_plan.specs.Tree.{tree}
use Rattle.vx_meaning.specs.Answer.{Answers}
use Rattle.vx_meaning.specs.Faulty.{Faulty}
use Rattle.vx_meaning.specs.Stopped.{IfAnswerRows, IfAnswerFault}
use Rattle.vx_engine.specs.Answer.{Means}
use Rattle.vx_engine.specs.Printing.{section_text}
use Rattle.vx_engine.specs.Run.{IsPlanOf, IsAnswerOf, IsRun}
use Rattle.vx_engine.specs.Ending.{StopsPrinting, Ends, Ran, printed_of, status_of_run}
use Rattle.vx_engine.specs.declared.print.Printed.{Printed}
use Rattle.vx_engine.specs.declared.print.Printed.TheVariants.{Rows, Fault}
use Rattle.vx_engine.specs.declared.stop.Stop.{Stop}
use Rattle.vx_engine.specs.declared.stop.Stop.TheVariants.{NotRead, TooBig, Refused, NotWritten, NoMemory}

-- a section that was written whole is one of rows or of a fault, as the answer is
ends_whole : (before after : FilesView) (out out' : SinkView) (name : List ℕ) (answer : SlowAnswer) (printed : Printed) → IsAnswerOf before name answer
    → printed ≡ printed_of answer → out'.taken ≡ gained out.taken (section_text name answer) → Ends before after out out' name (Ok printed)
ends_whole before after out out' name (slow.Rows rows) printed is same whole = rw same (record { rows = rows; prints = record { is = is; whole = whole } })
ends_whole before after out out' name (slow.Fault node row code) printed is same whole = rw same (record { node = node; row = row; code = code; prints = record { is = is; whole = whole } })

-- what the slow evaluator says of its answer is what the answer means
pub Means-from : (plan : Plan) (answer : SlowAnswer) → IfAnswerRows (Answers (tree plan.root)) answer → IfAnswerFault (Faulty (tree plan.root)) answer → Means plan answer
Means-from plan (slow.Rows rows) is fault = is
Means-from plan (slow.Fault node row code) is fault = fault

-- a run that has an answer ends as its printing does
pub ends_by_printing : (before after : FilesView) (out out' : SinkView) (name : List ℕ) (answer : SlowAnswer) (result : Result Printed Stop) → IsAnswerOf before name answer
    → IfOk result (λ printed. printed ≡ printed_of answer)
    → OnOk result (out'.taken ≡ gained out.taken (section_text name answer)) → OnErr result (GainsPart out.taken out'.taken (section_text name answer)) → IfErr result (StopsPrinting out out')
    → Ends before after out out' name result
ends_by_printing before after out out' name answer (Ok printed) is same whole front stops = ends_whole before after out out' name answer printed is same whole
ends_by_printing before after out out' name answer (Err NotWritten) is same whole front stops = (stops, record { answer = answer; is = is; front = front })
ends_by_printing before after out out' name answer (Err NoMemory) is same whole front stops = inr (record { answer = answer; is = is; front = front })
ends_by_printing before after out out' name answer (Err NotRead) is same whole front stops = absurd stops
ends_by_printing before after out out' name answer (Err TooBig) is same whole front stops = absurd stops
ends_by_printing before after out out' name answer (Err (Refused refusal)) is same whole front stops = absurd stops

-- the same, where the loading left the output as it was
pub ends_after_loading : (before after : FilesView) (out loaded out' : SinkView) (name : List ℕ) (plan : Plan) (answer : SlowAnswer) (result : Result Printed Stop) → loaded ≡ out → IsPlanOf before name (Ok plan) → Means plan answer
    → IfOk result (λ printed. printed ≡ printed_of answer)
    → OnOk result (out'.taken ≡ gained loaded.taken (section_text name answer)) → OnErr result (GainsPart loaded.taken out'.taken (section_text name answer)) → IfErr result (StopsPrinting loaded out')
    → Ends before after out out' name result
ends_after_loading before after out loaded out' name plan answer result unmoved is means same whole front stops =
    let Outcome : SinkView → Type 0 = λ o. Ends before after o out' name result in
    let of_file : IsAnswerOf before name answer = record { plan = plan; read = is; means = means } in
    subst Outcome unmoved (ends_by_printing before after loaded out' name answer result of_file same whole front stops)

-- what a run over a named file did is what a run of that status does
pub IsRun-from_Ran : (named : Option (List ℕ)) (files files' : FilesView) (out out' err err' : SinkView) (name : List ℕ) (result : Result Printed Stop) (status : ℕ)
    → named ≡ Some name → status ≡ status_of_run result → Ran files files' out out' err err' name result → IsRun named files files' out out' err err' status
IsRun-from_Ran named files files' out out' err err' name (Ok Rows) status is ends ran = rw (is, ends) (search rules)
IsRun-from_Ran named files files' out out' err err' name (Ok Fault) status is ends ran = rw (is, ends) (search rules)
IsRun-from_Ran named files files' out out' err err' name (Err NotRead) status is ends ran = rw (is, ends) (search rules)
IsRun-from_Ran named files files' out out' err err' name (Err TooBig) status is ends ran = rw (is, ends) (search rules)
IsRun-from_Ran named files files' out out' err err' name (Err (Refused refusal)) status is ends ran = rw (is, ends) (search rules)
IsRun-from_Ran named files files' out out' err err' name (Err NotWritten) status is ends ran = rw (is, ends) (search rules)
IsRun-from_Ran named files files' out out' err err' name (Err NoMemory) status is ends ran = rw (is, ends) (search rules)

-- no file is run only where the settings ask for what isn't built, or there are none, and there always
pub unnamed_only : (asked : Option Settings) → option_and_then file_of asked ≡ None → IfSome asked AsksForUnbuilt
unnamed_only None none = tt
unnamed_only (Some s) none = of_test (asks_for_unbuilt s) none
  where
    of_test : (b : Bool) → (if b then None else Some (slice_index_or s.words 0 [])) ≡ None → b ≡ true
    of_test true none = refl
    of_test false none = cc

pub unnamed : (asked : Option Settings) → IfSome asked AsksForUnbuilt → option_and_then file_of asked ≡ None
unnamed None asks = refl
unnamed (Some s) asks = rw asks refl
