-- What a read to the end of a reader gives, where the reader's bytes are known.
use Rattle.std.specs.Prelude.{◌≡◌, ℕ, ◌<◌, List, length, Option, IfSome, Result, Ok, Err}
use Rattle.vx_host.specs.Memory.{counted}
use Rattle.vx_host.specs.declared.error.SinkError.{SinkError}
use Rattle.vx_host.specs.declared.error.SinkError.TheVariants as sink_error
use Rattle.vx_host.specs.declared.error.ReadError.{ReadError}
use Rattle.vx_host.specs.declared.error.ReadError.TheVariants as read_error

-- these are all the bytes, where they are known
abbrev pub IsAllOf : Option (List ℕ) → List ℕ → Type 0
IsAllOf known bytes = IfSome known (λ all. bytes ≡ all)

-- what an error says of a reader: too big is one with more bytes than the limit, where they are known
abbrev pub IsErrorIn : Option (List ℕ) → ℕ → ReadError → Type 0
IsErrorIn known limit read_error.Failed = Unit {0}
IsErrorIn known limit (read_error.TooBig at) = (at ≡ limit) × IfSome known (λ all. limit < length all)
IsErrorIn known limit read_error.NoMemory = Unit {0}

-- the count of faults after a read with this answer: it rises at a failure alone
abbrev pub faults_after_read : {T : Type 0} → ℕ → Result T ReadError → ℕ
faults_after_read faults (Ok bytes) = faults
faults_after_read faults (Err read_error.Failed) = counted faults
faults_after_read faults (Err (read_error.TooBig at)) = faults
faults_after_read faults (Err read_error.NoMemory) = faults

-- the count of faults after a write with this answer, and that of wants of memory
abbrev pub faults_after_write : ℕ → Result ℕ SinkError → ℕ
faults_after_write faults (Ok count) = faults
faults_after_write faults (Err sink_error.Failed) = counted faults
faults_after_write faults (Err sink_error.NoMemory) = faults

abbrev pub wants_after_write : ℕ → Result ℕ SinkError → ℕ
wants_after_write wants (Ok count) = wants
wants_after_write wants (Err sink_error.Failed) = wants
wants_after_write wants (Err sink_error.NoMemory) = counted wants
