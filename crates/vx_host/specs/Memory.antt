-- A sink and a host in memory, as contracts see them. Their calls are numbered from 0, and those fail whose
-- numbers they were made with. A count at the end of its type stays there.
use Rattle.std.specs.Prelude.{ℕ, ◌==◌, ◌||◌, Bool, true, false, List, [], ◌∷◌, ◌++◌, map, filter, take, find, Option, Some, option_map, is_none, Result, Ok, Err}
use Rattle.std.specs.Str.{bytes_eq}
use Rattle.vx_base.specs.Calls.{none_to_fail}
pub use Rattle.vx_store.specs.Script.{counted, is_to_fail}
use Rattle.vx_host.specs.Views.{SinkView, FilesView}
use Rattle.vx_host.specs.declared.error.SinkError.{SinkError}
use Rattle.vx_host.specs.declared.error.SinkError.TheVariants as sink_error
use Rattle.vx_host.specs.declared.error.ReadError.{ReadError}
use Rattle.vx_host.specs.declared.error.ReadError.TheVariants as read_error
use Rattle.vx_host.specs.declared.host.To.{To}
use Rattle.vx_host.specs.declared.memory_host.StoreFail.{StoreFail}
use Rattle.vx_host.specs.declared.host.To.TheVariants.{Output, Errors}

-- A sink: the bytes that it has taken, the most that it takes in one call, the numbers of the calls that
-- fail, how many calls were made, how many of them failed, and how many wanted memory.
pub record SinkMemory : Type 0 where
  pub taken : List ℕ
  pub most : ℕ
  pub fails : List ℕ
  pub calls : ℕ
  pub faults : ℕ
  pub wants : ℕ

-- a sink that nobody has called yet
abbrev pub new_sink : ℕ → List ℕ → SinkMemory
new_sink most fails = record { taken = []; most = most; fails = fails; calls = 0; faults = 0; wants = 0 }

-- a sink after a call of `write` with this piece and this answer
abbrev pub after_write : SinkMemory → List ℕ → Result ℕ SinkError → SinkMemory
after_write s piece (Ok count) = record s { taken = s.taken ++ take count piece; calls = counted s.calls }
after_write s piece (Err sink_error.Failed) = record s { calls = counted s.calls; faults = counted s.faults }
after_write s piece (Err sink_error.NoMemory) = record s { calls = counted s.calls; wants = counted s.wants }

-- what a sink tells: its bytes, and that no call is still to fail once its list is behind it
abbrev pub sink_view : SinkMemory → SinkView
sink_view s = record { taken = Some s.taken; faults = s.faults; wants = s.wants; unfailing = none_to_fail s.fails s.calls }

-- A host: its files, each a name and its bytes, the numbers of the reads that fail, how many reads were
-- made, how many of them failed, its two sinks, and the jobs and numbers of the calls of stores that fail.
pub record HostMemory : Type 0 where
  pub files : List (List ℕ × List ℕ)
  pub fails : List ℕ
  pub reads : ℕ
  pub faults : ℕ
  pub out : SinkMemory
  pub err : SinkMemory
  pub store_fails : List StoreFail

-- a host that nobody has called yet
abbrev pub new_host : List (List ℕ × List ℕ) → List ℕ → SinkMemory → SinkMemory → List StoreFail → HostMemory
new_host files fails out err store_fails = record { files = files; fails = fails; reads = 0; faults = 0; out = out; err = err; store_fails = store_fails }

-- the bytes of the first file of that name
abbrev pub bytes_of : List (List ℕ × List ℕ) → List ℕ → Option (List ℕ)
bytes_of files name = option_map (λ file. file.1) (find (λ file. bytes_eq file.0 name) files)

-- the next read fails: its number is listed, or nothing stands under the name
abbrev pub read_fails : HostMemory → List ℕ → Bool
read_fails h name = is_to_fail h.fails h.reads || is_none (bytes_of h.files name)

-- a host after a read with this answer
abbrev pub after_read : {T : Type 0} → HostMemory → Result T ReadError → HostMemory
after_read h (Ok bytes) = record h { reads = counted h.reads }
after_read h (Err read_error.Failed) = record h { reads = counted h.reads; faults = counted h.faults }
after_read h (Err (read_error.TooBig at)) = record h { reads = counted h.reads }
after_read h (Err read_error.NoMemory) = record h { reads = counted h.reads }

-- what a host tells of its files
abbrev pub files_view : HostMemory → FilesView
files_view h = record { bytes_of = Some (bytes_of h.files); faults = h.faults; unfailing = none_to_fail h.fails h.reads }

-- one of a host's sinks
abbrev pub sink_at : HostMemory → To → SinkMemory
sink_at h Output = h.out
sink_at h Errors = h.err

-- what a host tells of its sinks
abbrev pub sink_view_at : HostMemory → To → SinkView
sink_view_at h to = sink_view (sink_at h to)

-- the calls of a job's store that fail
abbrev pub fails_of : List StoreFail → ℕ → List ℕ
fails_of fails job = map (λ fail. fail.call) (filter (λ fail. fail.job == job) fails)

abbrev pub is_empty : List StoreFail → Bool
is_empty [] = true
is_empty (fail ∷ fails) = false

-- no call of any store is to fail
abbrev pub no_store_fails : HostMemory → Bool
no_store_fails h = is_empty h.store_fails
