-- Why a run stops: the causes that errors of the parts become, the statuses, and the lines on err.
use Rattle.std.specs.Prelude.{ℕ, List, [], codes}
use Rattle.vx_host.specs.declared.error.ReadError.{ReadError}
use Rattle.vx_host.specs.declared.error.ReadError.TheVariants as read
use Rattle.vx_host.specs.declared.error.SinkError.{SinkError}
use Rattle.vx_host.specs.declared.error.SinkError.TheVariants as sink
use Rattle.vx_json.specs.Refusals.{refusal_text}
use Rattle.vx_json.specs.declared.error.PlanError.{PlanError}
use Rattle.vx_json.specs.declared.error.PlanError.TheVariants as plan
use Rattle.vx_engine.specs.declared.stop.Stop.{Stop}
use Rattle.vx_engine.specs.declared.stop.Stop.TheVariants.{NotRead, TooBig, Refused, NotWritten, NoMemory}
use Rattle.vx_engine.specs.Run.{no_memory_line, file_line}

abbrev pub stop_of_read : ReadError → Stop
stop_of_read read.Failed = NotRead
stop_of_read (read.TooBig at) = TooBig
stop_of_read read.NoMemory = NoMemory

abbrev pub stop_of_plan : PlanError → Stop
stop_of_plan (plan.Refused refusal) = Refused refusal
stop_of_plan plan.NoMemory = NoMemory

abbrev pub stop_of_sink : SinkError → Stop
stop_of_sink sink.Failed = NotWritten
stop_of_sink sink.NoMemory = NoMemory

-- the program's status
abbrev pub status_of : Stop → ℕ
status_of NotRead = 6
status_of TooBig = 6
status_of (Refused refusal) = 3
status_of NotWritten = 4
status_of NoMemory = 5

-- the line on err; none where the output failed
abbrev pub line_of : List ℕ → Stop → List ℕ
line_of name NotRead = file_line name (codes "cannot be read")
line_of name TooBig = file_line name (codes "too big")
line_of name (Refused refusal) = file_line name (refusal_text refusal)
line_of name NotWritten = []
line_of name NoMemory = no_memory_line
