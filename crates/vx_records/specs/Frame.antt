-- Frames: so many bytes for each number, side by side in chunks of 4,096 bytes.
use Rattle.std.specs.Prelude.{◌≡◌, ℕ, ◌*◌, ◌/◌, ◌%◌, ◌^◌, ◌<◌, ◌≤◌, List, [], ◌∷◌, ◌++◌, length, take, drop, map, slice_index_or, slice_set}
use Rattle.std.specs.Int.{div_ceil}
use Rattle.std.specs.List.{range_with_len}
use Rattle.vx_raw.specs.Region.{RegionModel, chunk_at, bytes_held, written}
use Rattle.vx_raw.specs.declared.place.Place.{Place}

-- how many bytes a frame has, and the bytes of each
pub record FramesModel : Type 0 where
  pub size : ℕ
  pub frames : List (List ℕ)

abbrev pub frame_at : FramesModel → ℕ → List ℕ
frame_at m number = slice_index_or m.frames number []

-- how many frames stand in a chunk
unfoldable pub per_chunk : ℕ → ℕ
per_chunk size = 4096 / size

-- where a frame begins
unfoldable pub place_of : ℕ → ℕ → Place
place_of size number = record { chunk = number / per_chunk size; at = (number % per_chunk size) * size }

-- the bytes of a frame of this number
unfoldable pub frame_in : ℕ → RegionModel → ℕ → List ℕ
frame_in size region number = take size (drop (place_of size number).at (chunk_at region (place_of size number).chunk))

-- those of the numbers from 0 on
unfoldable pub frames_of : ℕ → RegionModel → ℕ → List (List ℕ)
frames_of size region count = map (frame_in size region) (range_with_len 0 count)

-- the frames of so many numbers
abbrev pub seen_in : ℕ → RegionModel → ℕ → FramesModel
seen_in size region count = record { size = size; frames = frames_of size region count }

-- the chunks are as many as so many frames need, at most 16 gibibytes
pub record AreFrames (size per : ℕ) (region : RegionModel) (count : ℕ) : Type 0 where
  pub least : 8 ≤ size
  pub most : size ≤ 4096
  pub per_is : per ≡ per_chunk size
  pub whole : (k : ℕ) → k < length region → length (chunk_at region k) ≡ 4096
  pub held : bytes_held region ≡ 4096 * length region
  pub few : length region ≤ 2 ^ 22
  pub chunks : length region ≡ div_ceil count per

-- other bytes over those of one frame, and all other frames as they were
abbrev pub with_bytes : FramesModel → ℕ → ℕ → List ℕ → FramesModel
with_bytes m number at from = record { size = m.size; frames = slice_set m.frames number (written (frame_at m number) at from) }

-- one frame more, whatever its bytes are
pub record AddsFrame (before after : FramesModel) : Type 0 where
  pub bytes : List ℕ
  pub long : length bytes ≡ before.size
  pub is : after ≡ record { size = before.size; frames = before.frames ++ bytes ∷ [] }

-- a frame's bytes, and all other frames as they were
abbrev pub with_frame : FramesModel → ℕ → List ℕ → FramesModel
with_frame m number bytes = record { size = m.size; frames = slice_set m.frames number bytes }

-- one frame more, of these bytes
abbrev pub and_frame : FramesModel → List ℕ → FramesModel
and_frame m bytes = record { size = m.size; frames = m.frames ++ bytes ∷ [] }
