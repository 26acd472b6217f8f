-- What contracts see of a host over real files and streams. Its files and its sinks aren't told.
use Rattle.std.specs.Prelude.{◌≡◌, ℕ, List, false, Option, None}
use Rattle.vx_host.specs.Views.{SinkView, FilesView}
use Rattle.vx_host.specs.declared.host.To.{To}
use Rattle.vx_host.specs.declared.host.To.TheVariants.{Output, Errors}
use Rattle.vx_host.specs.declared.stream.Stream.{Stream}
use Rattle.vx_host.specs.declared.real.RealHost.{RealHost}

-- what a stream tells: its counts alone
abbrev pub stream_view : {W : Type 0} → Stream W → SinkView
stream_view s = record { taken = None; faults = s.faults; wants = s.wants; unfailing = false }

-- what a real host tells of its files: its faults alone
abbrev pub real_files : {F O E : Type 0} → RealHost F O E → FilesView
real_files h = record { bytes_of = None; faults = h.faults; unfailing = false }

-- what a real host tells of its sinks
abbrev pub real_sink : {F O E : Type 0} → RealHost F O E → To → SinkView
real_sink h Output = stream_view h.out
real_sink h Errors = stream_view h.err

-- what the writer of a sink holds, where it is known: `of_out` and `of_err` say it of each
abbrev pub written : {F O E : Type 0} → (O → Option (List ℕ)) → (E → Option (List ℕ)) → RealHost F O E → To → Option (List ℕ)
written of_out of_err h Output = of_out h.out.writer
written of_out of_err h Errors = of_err h.err.writer

-- a stream whose counts are 0
abbrev pub IsFreshStream : {W : Type 0} → Stream W → Type 0
IsFreshStream s = (s.faults ≡ 0) × (s.wants ≡ 0)

-- a host whose counts are all 0
abbrev pub IsFresh : {F O E : Type 0} → RealHost F O E → Type 0
IsFresh h = (h.faults ≡ 0) × IsFreshStream h.out × IsFreshStream h.err
