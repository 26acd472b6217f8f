-- The texts of a query's section.
use Rattle.std.specs.Prelude.{List, [], ◌++◌, ℕ, length, codes, decimal}
use Rattle.std.specs.List.{flat_map}
use Rattle.vx_value.specs.declared.value.Value.{Value}
use Rattle.vx_expr.specs.declared.outcome.Fault.{Fault}
use Rattle.vx_expr.specs.declared.outcome.Fault.TheVariants.{Overflow, DivideByZero, TooLong}
use Rattle.vx_json.specs.Printing.{row_text}
use Rattle.vx_report.specs.Notes.{note_text}
use Rattle.vx_report.specs.declared.outcomes.Cause.{Cause}
use Rattle.vx_report.specs.declared.outcomes.Cause.TheVariants as cause
use Rattle.vx_report.specs.declared.outcomes.Outcome.{Outcome}
use Rattle.vx_report.specs.declared.outcomes.Outcome.TheVariants as outcome

-- a row as compact JSON, on a line of its own
abbrev pub row_line : List Value → List ℕ
row_line row = row_text row ++ codes "\n"

-- the name of a fault
abbrev pub code_name : Fault → List ℕ
code_name Overflow = codes "overflow"
code_name DivideByZero = codes "divide_by_zero"
code_name TooLong = codes "too_long"

-- the name of what a query failed by
abbrev pub error_name : Cause → List ℕ
error_name (cause.Fault node row code) = codes "fault"
error_name (cause.Spill faults) = codes "spill"
error_name (cause.Aborted note) = codes "aborted"
error_name cause.Memory = codes "memory"

-- the node that faulted, and how
abbrev pub fault_fields : ℕ → Fault → List ℕ
fault_fields node code = codes " node=" ++ decimal node ++ codes " code=" ++ code_name code ++ codes " row="

-- what is said of the cause: a fault has the row or the key, an abort how many looks its request had taken
abbrev pub error_fields : Cause → List ℕ
error_fields (cause.Fault node row code) = fault_fields node code ++ row_text row
error_fields (cause.Spill faults) = codes " faults=" ++ decimal faults
error_fields (cause.Aborted note) = note_text note ++ codes " looks=" ++ decimal note.looks
error_fields cause.Memory = []

-- `ok` and the number of rows, then a line for each
abbrev pub rows_text : List (List Value) → List ℕ
rows_text rows = codes "ok " ++ decimal (length rows) ++ codes "\n" ++ flat_map row_line rows

-- `error` and why
abbrev pub error_line : Cause → List ℕ
error_line cause = codes "error " ++ error_name cause ++ error_fields cause ++ codes "\n"

abbrev pub outcome_text : Outcome → List ℕ
outcome_text (outcome.Ok rows) = rows_text rows
outcome_text (outcome.Error cause) = error_line cause

-- what is printed of a job: its number, the name of its file, and the outcome
abbrev pub section_text : ℕ → List ℕ → Outcome → List ℕ
section_text job name outcome =
    codes "== " ++ decimal job ++ codes " " ++ name ++ codes "\n" ++ outcome_text outcome
