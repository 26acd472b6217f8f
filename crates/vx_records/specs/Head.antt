-- A record's bytes: 4 of the next record's number plus one, or 0, 4 of flags, and then its body. Numbers
-- are little-endian. Bit 0 of the flags is set where it is live, bit 1 where it is matched. The free
-- numbers stand in a list, from one to the next by the same link.
use Rattle.std.specs.Prelude.{◌≡◌, ℕ, ◌+◌, ◌-◌, ◌/◌, ◌%◌, ◌^◌, ◌<◌, ◌≤◌, ◌==◌, Option, Some, None, List, [], ◌∷◌, ◌++◌, length, take, drop, map, if◌then◌else◌, ◌⊎◌}
use Rattle.std.specs.Int.{w32, to_le_bytes, from_le_bytes}
use Rattle.vx_records.specs.Record.{Record, RecordsModel}
use Rattle.vx_records.specs.Frame.{FramesModel, frame_at}

unfoldable pub link_in : List ℕ → ℕ
link_in bytes = from_le_bytes w32 (take 4 bytes)

unfoldable pub flags_in : List ℕ → ℕ
flags_in bytes = from_le_bytes w32 (take 4 (drop 4 bytes))

-- a head with this link and these flags
unfoldable pub head_of : ℕ → ℕ → List ℕ
head_of link flags = to_le_bytes w32 link ++ to_le_bytes w32 flags

-- the number that a link spells
abbrev pub number_of : ℕ → Option ℕ
number_of link = if link == 0 then None else Some (link - 1)

-- how a link spells a number
abbrev pub link_of : Option ℕ → ℕ
link_of None = 0
link_of (Some number) = number + 1

-- the record that a frame's bytes spell, None where they are of a free number
unfoldable pub record_of : List ℕ → Option Record
record_of bytes =
    if flags_in bytes % 2 == 1
    then Some (record { next = number_of (link_in bytes); matched = flags_in bytes / 2 % 2 == 1; body = drop 8 bytes })
    else None

-- what all frames spell
unfoldable pub records_of : FramesModel → RecordsModel
records_of m = record { len = m.size - 8; records = map record_of m.frames }

abbrev pub IsIn : List ℕ → ℕ → Type 0
IsIn [] n = ⊥
IsIn (m ∷ rest) n = (n ≡ m) ⊎ IsIn rest n

-- from this link on stand exactly these free numbers, none twice
abbrev pub IsLinked : FramesModel → ℕ → List ℕ → Type 0
IsLinked m link [] = link ≡ 0
IsLinked m link (n ∷ rest) = (link ≡ n + 1) × (n < length m.frames) × (record_of (frame_at m n) ≡ None) × (IsIn rest n → ⊥) × IsLinked m (link_in (frame_at m n)) rest

-- each frame is whole, and each free number stands in the list, from its head on
pub record IsListed (m : FramesModel) (free : ℕ) : Type 0 where
  pub least : 8 ≤ m.size
  pub most : m.size ≤ 4096
  pub few : length m.frames ≤ 2 ^ 31
  pub long : (n : ℕ) → n < length m.frames → length (frame_at m n) ≡ m.size
  pub numbers : List ℕ
  pub linked : IsLinked m free numbers
  pub all : (n : ℕ) → n < length m.frames → record_of (frame_at m n) ≡ None → IsIn numbers n
