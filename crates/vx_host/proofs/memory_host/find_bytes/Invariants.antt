use Rattle.std.proofs.Common.{◌≡◌, drop}
use Rattle.vx_host.specs.Files.{named}
use Rattle.vx_host.specs.Memory.{bytes_of}
use Rattle.vx_host.proofs.memory_host.find_bytes.Given as goal

abbrev pub invariant-loop-file : goal.invariant-loop-file
invariant-loop-file l = bytes_of (named (drop l.file-index l.files)) l.name ≡ bytes_of (named l.files) l.name
