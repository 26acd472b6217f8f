-- What a read and a write do to a host.
use Rattle.std.specs.Prelude.{◌≡◌, ℕ, ◌<◌, List, length, true, Some, None, IfSome, IsSomeAnd}
use Rattle.vx_host.specs.Views.{SinkView, FilesView}
use Rattle.vx_host.specs.declared.error.ReadError.{ReadError}
use Rattle.vx_host.specs.declared.error.ReadError.TheVariants.{Failed, TooBig, NoMemory}
use Rattle.vx_host.specs.declared.host.To.{To}
use Rattle.vx_host.specs.declared.host.To.TheVariants.{Output, Errors}

-- the other sink
abbrev pub other : To → To
other Output = Errors
other Errors = Output

-- these bytes stand under the name, where the host tells what does
abbrev pub Stands : FilesView → List ℕ → List ℕ → Type 0
Stands files name bytes = IfSome files.bytes_of (λ bytes_of. bytes_of name ≡ Some bytes)

-- nothing stands under the name, where the host tells what does
abbrev pub IsAbsent : FilesView → List ℕ → Type 0
IsAbsent files name = IfSome files.bytes_of (λ bytes_of. bytes_of name ≡ None)

-- more bytes than the limit stand under the name, where the host tells what does
abbrev pub IsTooBig : FilesView → List ℕ → ℕ → Type 0
IsTooBig files name limit = IfSome files.bytes_of (λ bytes_of. IsSomeAnd (bytes_of name) (λ bytes. limit < length bytes))

-- what a read error says of the file
abbrev pub IsReadErrorOf : FilesView → List ℕ → ℕ → ReadError → Type 0
IsReadErrorOf files name limit Failed = files.unfailing ≡ true → IsAbsent files name
IsReadErrorOf files name limit (TooBig at) = (at ≡ limit) × IsTooBig files name limit
IsReadErrorOf files name limit NoMemory = Unit {0}

-- a call left what stands under each name, and whether a read is still to fail
pub record KeepsFiles (before after : FilesView) : Type 0 where
  pub bytes_of : after.bytes_of ≡ before.bytes_of
  pub unfailing : before.unfailing ≡ true → after.unfailing ≡ true

-- a write to one sink left the files and the other sink as they were
pub record WritesOnly {H : Type 0} (files : H → FilesView) (sink : H → To → SinkView) (to : To) (before after : H) : Type 0 where
  pub same_files : files after ≡ files before
  pub other_sink : sink after (other to) ≡ sink before (other to)
