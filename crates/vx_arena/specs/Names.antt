-- Blocks by name. A block's name is its place as one number, as the 8 bytes of a link spell it: 4 of the
-- chunk's number and 4 of the byte. Numbers are little-endian.
use Rattle.std.specs.Prelude.{◌≡◌, ℕ, ◌+◌, ◌-◌, ◌*◌, ◌/◌, ◌%◌, ◌^◌, Bool, Option, Some, None, List, length, if◌then◌else◌}
use Rattle.std.specs.List.{sum_by}
use Rattle.vx_raw.specs.declared.place.Place.{Place}
use Rattle.vx_arena.specs.Block.{Block}
use Rattle.vx_arena.specs.Chunks.{Chunks, found_in, block_at, held_by}

abbrev pub name_of : Place → ℕ
name_of place = place.chunk + place.at * 2 ^ 32

abbrev pub place_of : ℕ → Place
place_of name = record { chunk = name % 2 ^ 32; at = name / 2 ^ 32 }

-- the name that no block has: all bits of a link set
abbrev pub none : ℕ
none = 2 ^ 64 - 1

-- the block that has this name
unfoldable pub block_of : Chunks → ℕ → Option Block
block_of chunks name = found_in chunks (place_of name)

unfoldable pub named : Chunks → ℕ → Block
named chunks name = block_at chunks (place_of name)

-- a block has this name
abbrev pub IsNamed : Chunks → ℕ → Type 0
IsNamed chunks name = block_of chunks name ≡ Some (named chunks name)

-- the payload of a block, where it is live
abbrev pub live_in : Option Block → Option (List ℕ)
live_in None = None
live_in (Some b) = if b.live then Some b.payload else None

unfoldable pub live_at : Chunks → ℕ → Option (List ℕ)
live_at chunks name = live_in (block_of chunks name)

-- how long a block's payload is
abbrev pub len_in : Option Block → Option ℕ
len_in None = None
len_in (Some b) = Some (length b.payload)

unfoldable pub len_at : Chunks → ℕ → Option ℕ
len_at chunks name = len_in (block_of chunks name)

-- how many blocks are live
abbrev pub one_if : Bool → ℕ
one_if live = if live then 1 else 0

unfoldable pub lives_in : List Block → ℕ
lives_in blocks = sum_by (λ b. one_if b.live) blocks

unfoldable pub lives : Chunks → ℕ
lives chunks = sum_by lives_in chunks

-- the block of this name is now this one, and all others are as they were
pub record Changes (before after : Chunks) (name : ℕ) (block : Block) : Type 0 where
  pub there : block_of after name ≡ Some block
  pub others : (n : ℕ) → (n ≡ name → ⊥) → block_of after n ≡ block_of before n
  pub count : lives after + one_if (named before name).live ≡ lives before + one_if block.live
  pub held : held_by after ≡ held_by before
  pub many : length after ≡ length before
