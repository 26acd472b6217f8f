-- Files in memory as contracts see them.
use Rattle.std.specs.Prelude.{ℕ, List, map, string_bytes}
use Rattle.vx_host.specs.declared.memory_host.MemoryFile.{MemoryFile}

-- each file as its name and its bytes
abbrev pub named : List MemoryFile → List (List ℕ × List ℕ)
named files = map (λ file. (string_bytes file.name, file.bytes.items)) files
