-- The text of the arbitrator's log.
use Rattle.std.specs.Prelude.{List, ◌∷◌, ◌++◌, ℕ, map, codes, decimal}
use Rattle.std.specs.List.{enumerate_from, flat_map, join_with_byte}
use Rattle.std.specs.Str.{byte}
use Rattle.vx_arb.specs.declared.entries.AbortNote.{AbortNote}
use Rattle.vx_arb.specs.declared.entries.Entry.{Entry}
use Rattle.vx_arb.specs.declared.entries.Entry.TheVariants.{Grant, Shrink, Reclaim, Abort, Retire}
use Rattle.vx_arb.specs.declared.entries.Look.{Look}
use Rattle.vx_report.specs.Ascending.{ascending}
use Rattle.vx_report.specs.Notes.{note_text}

-- a change of a job's capacity
abbrev pub change_text : List ℕ → ℕ → ℕ → List ℕ
change_text name job amount = name ++ codes " job=" ++ decimal job ++ codes " amount=" ++ decimal amount

-- numbers with commas between them
abbrev pub listed : List ℕ → List ℕ
listed numbers = join_with_byte (byte ",") (map decimal numbers)

-- numbers with a comma before each
abbrev pub listed_after : List ℕ → List ℕ
listed_after numbers = flat_map (λ number. byte "," ∷ decimal number) numbers

-- the numbers of the jobs that were looked at, ascending
abbrev pub jobs_of : List Look → List ℕ
jobs_of looks = ascending (map (λ (look : Look). look.job) looks)

-- an abort with the request that ended in it, and the jobs that were looked at
abbrev pub abort_text : AbortNote → ℕ → List Look → List ℕ
abort_text note amount looks =
    change_text (codes "abort") note.job amount ++ note_text note ++ codes " looks=" ++ listed (jobs_of looks)

-- an entry without its number
abbrev pub entry_text : Entry → List ℕ
entry_text (Grant job amount) = change_text (codes "grant") job amount
entry_text (Shrink job amount) = change_text (codes "shrink") job amount
entry_text (Reclaim job amount) = change_text (codes "reclaim") job amount
entry_text (Abort note amount looks) = abort_text note amount looks
entry_text (Retire job amount) = change_text (codes "retire") job amount

-- an entry of that number, on a line of its own
abbrev pub entry_line : ℕ × Entry → List ℕ
entry_line entry = codes "log " ++ decimal entry.0 ++ codes " " ++ entry_text entry.1 ++ codes "\n"

-- the entries numbered from 0, and then what is free
abbrev pub log_text : List Entry → ℕ → List ℕ
log_text log free =
    flat_map entry_line (enumerate_from 0 log) ++ codes "free " ++ decimal free ++ codes "\n"
