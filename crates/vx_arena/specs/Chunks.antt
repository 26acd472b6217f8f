-- The chunks of an arena by number, each as the blocks that its bytes spell.
use Rattle.std.specs.Prelude.{◌≡◌, ℕ, false, Option, Some, List, [], ◌∷◌, ◌++◌, length, take, drop, map, replicate, unwrap_or, slice_index_or, slice_set, ◌+◌, ◌≤◌}
use Rattle.std.specs.List.{sum_by}
use Rattle.vx_raw.specs.Region.{RegionModel, chunk_at}
use Rattle.vx_raw.specs.declared.place.Place.{Place}
use Rattle.vx_arena.specs.Block.{Block, bytes_of, blocks_in, found, replaced, IsTiled}

abbrev pub Chunks : Type 0
Chunks = List (List Block)

abbrev pub chunks_of : RegionModel → Chunks
chunks_of region = map blocks_in region

-- the bytes of a chunk, at most 4,096, are those of the blocks that they spell
pub record IsWhole (bytes : List ℕ) : Type 0 where
  pub tiled : IsTiled bytes
  pub within : length bytes ≤ 4096

abbrev pub IsTiling : RegionModel → Type 0
IsTiling region = (number : ℕ) → IsWhole (chunk_at region number)

abbrev pub blocks_at : Chunks → ℕ → List Block
blocks_at chunks number = slice_index_or chunks number []

abbrev pub found_in : Chunks → Place → Option Block
found_in chunks place = found (blocks_at chunks place.chunk) place.at

-- the block whose head stands there
abbrev pub block_at : Chunks → Place → Block
block_at chunks place = unwrap_or (found_in chunks place) (record { live = false; payload = [] })

-- a block's head stands there
abbrev pub IsBlock : Chunks → Place → Type 0
IsBlock chunks place = found_in chunks place ≡ Some (block_at chunks place)

-- how many bytes they take
abbrev pub held_by : Chunks → ℕ
held_by chunks = sum_by (λ blocks. length (bytes_of blocks)) chunks

-- others in place of the block whose head stands there
abbrev pub with_blocks : Chunks → Place → List Block → Chunks
with_blocks chunks place new = slice_set chunks place.chunk (replaced (blocks_at chunks place.chunk) place.at new)

-- one block more in a chunk of its own
abbrev pub with_chunk : Chunks → Chunks
with_chunk chunks = chunks ++ (record { live = false; payload = replicate 4088 0 } ∷ []) ∷ []

-- a block, cut in two: so many bytes of payload stay with it
abbrev pub halves : Block → ℕ → List Block
halves b len = record { live = b.live; payload = take len b.payload } ∷ record { live = false; payload = drop (len + 8) b.payload } ∷ []
