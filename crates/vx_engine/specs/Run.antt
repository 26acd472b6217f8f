-- What a run of the program did to its host: each status with its cause and its line on err.
use Rattle.std.specs.Prelude.{◌≡◌, ◌≢◌, ◌⊎◌, ℕ, ◌<◌, ◌≤◌, ◌==◌, List, [], ◌∷◌, ◌++◌, length, codes, Bool, true, ⊤, Option, Some, None, IfSome, IsSomeAnd, option_map, option_and_then, Result, Ok, Err}
use Rattle.std.specs.List.{list_any}
use Rattle.vx_base.specs.Causes.{Rose}
use Rattle.vx_base.specs.Told.{gained}
use Rattle.vx_host.specs.Views.{SinkView, FilesView}
use Rattle.vx_host.specs.Host.{Stands, IsTooBig, KeepsFiles}
use Rattle.vx_host.specs.Sink.{GainsPart}
use Rattle.vx_plan.specs.declared.node.Plan.{Plan}
use Rattle.vx_value.specs.Row.{Row}
use Rattle.vx_expr.specs.declared.outcome.Fault.{Fault}
use Rattle.vx_plan.specs.declared.refusal.Refusal.{Refusal}
use Rattle.vx_json.specs.Place.{Said as Reason}
use Rattle.vx_json.specs.Outcome.{said_of}
use Rattle.vx_json.specs.Refusals.{refusal_text}
use Rattle.vx_json.specs.Plans.{plan_of}
use Rattle.vx_meaning.specs.declared.outcome.SlowAnswer.{SlowAnswer}
use Rattle.vx_meaning.specs.declared.outcome.SlowAnswer.TheVariants.{Rows, Fault as Faults}
use Rattle.vx_engine.specs.Answer.{Means}
use Rattle.vx_engine.specs.Printing.{section_text}

-- the most bytes that a plan file may have
abbrev pub file_limit : ℕ
file_limit = 16777216

-- the lines on err
abbrev pub bad_words_line : List ℕ
bad_words_line = codes "vxrun: bad words\n"

abbrev pub no_memory_line : List ℕ
no_memory_line = codes "vxrun: out of memory\n"

abbrev pub file_line : List ℕ → List ℕ → List ℕ
file_line name what = codes "vxrun: " ++ name ++ codes ": " ++ what ++ codes "\n"

-- what stands under the named file: bytes or nothing, where there is a name and the host tells what does
abbrev pub told_file : FilesView → Option (List ℕ) → Option (Option (List ℕ))
told_file files named = option_and_then (λ name. option_map (λ bytes_of. bytes_of name) files.bytes_of) named

-- nothing that can be read: nothing at all, or more bytes than the limit
abbrev pub IsUnreadable : Option (List ℕ) → Type 0
IsUnreadable None = ⊤
IsUnreadable (Some bytes) = file_limit < length bytes

-- bytes that are refused
abbrev pub IsRefused : Option (List ℕ) → Type 0
IsRefused None = ⊥
IsRefused (Some bytes) = (reason : Reason) × (plan_of bytes ≡ Err reason)

-- The bytes that stand under the name: told ones, or some that the host doesn't tell.
pub record IsPlanOf (files : FilesView) (name : List ℕ) (plan : Result Plan Reason) : Type 0 where
  pub bytes : List ℕ
  pub stands : Stands files name bytes
  pub within : length bytes ≤ file_limit
  pub is : plan_of bytes ≡ plan

-- the file's plan means this answer: rows that answer it, or a fault that it can meet
pub record IsAnswerOf (files : FilesView) (name : List ℕ) (answer : SlowAnswer) : Type 0 where
  pub plan : Plan
  pub read : IsPlanOf files name (Ok plan)
  pub means : Means plan answer

-- out gained the section of this answer of the file's plan
pub record Prints (files : FilesView) (out out' : SinkView) (name : List ℕ) (answer : SlowAnswer) : Type 0 where
  pub is : IsAnswerOf files name answer
  pub whole : out'.taken ≡ gained out.taken (section_text name answer)

-- out gained the section of rows that answer the file's plan
pub record PrintsRows (files : FilesView) (out out' : SinkView) (name : List ℕ) : Type 0 where
  pub rows : List Row
  pub prints : Prints files out out' name (Rows rows)

-- out gained the section of a fault that the file's plan can meet
pub record PrintsFault (files : FilesView) (out out' : SinkView) (name : List ℕ) : Type 0 where
  pub node : ℕ
  pub row : Row
  pub code : Fault
  pub prints : Prints files out out' name (Faults node row code)

-- out gained a front of the section of rows or a fault, and not the whole
pub record PrintsFront (files : FilesView) (out out' : SinkView) (name : List ℕ) : Type 0 where
  pub answer : SlowAnswer
  pub is : IsAnswerOf files name answer
  pub front : GainsPart out.taken out'.taken (section_text name answer)

-- err gained the whole line, or less of it where a write to it failed or wanted memory
pub data Says (err err' : SinkView) (line : List ℕ) : Type 0 where
  whole : err'.taken ≡ gained err.taken line → Says err err' line
  cut : GainsPart err.taken err'.taken line → Rose err.faults err'.faults ⊎ Rose err.wants err'.wants → Says err err' line

-- the file wasn't read, and the line says why: its read failed, or it is too big
pub data SaysUnread (files files' : FilesView) (err err' : SinkView) (name : List ℕ) : Type 0 where
  failed : Rose files.faults files'.faults → Says err err' (file_line name (codes "cannot be read")) → SaysUnread files files' err err' name
  too_big : IsTooBig files name file_limit → Says err err' (file_line name (codes "too big")) → SaysUnread files files' err err' name

-- the file's bytes are refused, and the line names the refusal
pub record SaysRefusal (files : FilesView) (err err' : SinkView) (name : List ℕ) : Type 0 where
  pub refusal : Refusal
  pub read : IsPlanOf files name (Err (said_of refusal))
  pub said : Says err err' (file_line name (refusal_text refusal))

-- a sink's counts don't fall, and where no call is still to fail, none is afterwards
pub record GoesOn (before after : SinkView) : Type 0 where
  pub later : before.faults ≤ after.faults
  pub wants : before.wants ≤ after.wants
  pub unfailing : before.unfailing ≡ true → after.unfailing ≡ true

-- the statuses that there are
abbrev pub is_status : ℕ → Bool
is_status status = list_any (λ known. status == known) (0 ∷ 1 ∷ 2 ∷ 3 ∷ 4 ∷ 5 ∷ 6 ∷ [])

-- What a run did, by its status. The top call has the same statements as clauses of these names.
pub record IsRun (named : Option (List ℕ)) (files files' : FilesView) (out out' err err' : SinkView) (status : ℕ) : Type 0 where
  pub statuses : is_status status ≡ true
  pub bad_words : status ≡ 2 → named ≡ None
  pub bad_words_always : named ≡ None → status ≢ 5 → status ≡ 2
  pub bad_words_said : status ≡ 2 → Says err err' bad_words_line
  pub not_read : status ≡ 6 → IsSomeAnd named (SaysUnread files files' err err')
  pub unreadable_only : status ≡ 6 → files.unfailing ≡ true → IfSome (told_file files named) IsUnreadable
  pub unreadable : IsSomeAnd (told_file files named) IsUnreadable → status ≢ 5 → status ≡ 6
  pub refused : status ≡ 3 → IsSomeAnd named (SaysRefusal files err err')
  pub refused_always : IsSomeAnd (told_file files named) IsRefused → status ≢ 5 → status ≢ 6 → status ≡ 3
  pub not_written : status ≡ 4 → Rose out.faults out'.faults
  pub written : out.unfailing ≡ true → status ≢ 4
  pub cut_short : status ≡ 4 → IsSomeAnd named (PrintsFront files out out')
  pub out_of_memory : status ≡ 5 → (out' ≡ out) ⊎ IsSomeAnd named (PrintsFront files out out')
  pub out_of_memory_said : status ≡ 5 → Says err err' no_memory_line
  pub printed : status ≡ 0 → IsSomeAnd named (PrintsRows files out out')
  pub faulted : status ≡ 1 → IsSomeAnd named (PrintsFault files out out')
  pub untouched : (status ≡ 2) ⊎ (status ≡ 3) ⊎ (status ≡ 6) → out' ≡ out
  pub quiet : (status ≡ 0) ⊎ (status ≡ 1) ⊎ (status ≡ 4) → err' ≡ err
  pub files_stay : KeepsFiles files files'
  pub files_later : files.faults ≤ files'.faults
  pub out_later : GoesOn out out'
  pub err_later : GoesOn err err'
