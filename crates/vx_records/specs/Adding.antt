-- Records that are added one after another, and the chunks that they take.
use Rattle.std.specs.Prelude.{◌≡◌, ℕ, List, [], ◌∷◌, length}
use Rattle.vx_records.specs.Record.{Record, RecordsModel, AddsRecord, chunk_bytes}

-- each was added to what those before it left, and nothing else happened between
abbrev pub AddsRecords : RecordsModel → List Record → RecordsModel → Type 0
AddsRecords before [] after = after ≡ before
AddsRecords before (r ∷ rest) after = (number : ℕ) × (middle : RecordsModel) × AddsRecord before middle number r × AddsRecords middle rest after

-- how many bytes the chunks of all its numbers have, free ones too
abbrev pub bytes_of : RecordsModel → ℕ
bytes_of m = chunk_bytes m.len (length m.records)
