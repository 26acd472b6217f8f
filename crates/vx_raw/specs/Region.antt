-- A region: its chunks in the order of their numbers, each as its bytes.
use Rattle.std.specs.Prelude.{◌≡◌, ℕ, ◌+◌, ◌%◌, ◌^◌, ◌<◌, ◌≤◌, ◌==◌, List, [], ◌∷◌, ◌++◌, length, take, drop, slice_index_or, slice_set, replicate, if◌then◌else◌}
use Rattle.std.specs.List.{sum_by}
use Rattle.vx_raw.specs.declared.place.Place.{Place}

abbrev pub RegionModel : Type 0
RegionModel = List (List ℕ)

-- the bytes of the chunk of this number; one that was shed has none
abbrev pub chunk_at : RegionModel → ℕ → List ℕ
chunk_at chunks number = slice_index_or chunks number []

-- how many bytes the chunks have together
abbrev pub bytes_held : RegionModel → ℕ
bytes_held chunks = sum_by length chunks

-- a chunk has whole words, and at most 8 gibibytes
pub record IsChunkSize (bytes : ℕ) : Type 0 where
  pub words : bytes % 8 ≡ 0
  pub least : 8 ≤ bytes
  pub most : bytes ≤ 2 ^ 33

-- so many bytes from this place on lie inside one chunk
pub record IsInside (chunks : RegionModel) (place : Place) (len : ℕ) : Type 0 where
  pub chunk : place.chunk < length chunks
  pub end : place.at + len ≤ length (chunk_at chunks place.chunk)

-- the chunks and one more, of zeros
abbrev pub after_grow : RegionModel → ℕ → RegionModel
after_grow chunks bytes = chunks ++ replicate bytes 0 ∷ []

-- these bytes, with others over those from this place on
abbrev pub written : List ℕ → ℕ → List ℕ → List ℕ
written bytes at from = take at bytes ++ from ++ drop (at + length from) bytes

abbrev pub after_write : RegionModel → Place → List ℕ → RegionModel
after_write chunks place from = slice_set chunks place.chunk (written (chunk_at chunks place.chunk) place.at from)

-- numbers start anew where nothing is held
abbrev pub anew : RegionModel → RegionModel
anew chunks = if bytes_held chunks == 0 then [] else chunks

-- the chunk of this number is empty, and all others are as they were
abbrev pub after_shed : RegionModel → ℕ → RegionModel
after_shed chunks number = anew (slice_set chunks number [])

-- what the code keeps: the count of bytes is theirs, and where there are none there is no number either
pub record IsKept (chunks : RegionModel) (held : ℕ) : Type 0 where
  pub counted : held ≡ bytes_held chunks
  pub bounded : held ≤ 2 ^ 34
  pub settled : held ≡ 0 → chunks ≡ []
