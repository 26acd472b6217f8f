-- A chunk's bytes as blocks. Each has 8 bytes of head and then its payload: 4 bytes of the payload's
-- length, and 4 of 1 where it is live or 0 where it is free. Numbers are little-endian.
use Rattle.std.specs.Prelude.{◌≡◌, ℕ, zero, suc, ◌+◌, ◌-◌, ◌^◌, ◌<◌, ◌==◌, nat_lt, Bool, Option, Some, None, List, [], ◌∷◌, ◌++◌, length, take, drop, if◌then◌else◌}
use Rattle.std.specs.Int.{w32, to_le_bytes, from_le_bytes}
use Rattle.std.specs.List.{flat_map}

pub record Block : Type 0 where
  pub live : Bool
  pub payload : List ℕ

-- how many bytes of the chunk it takes
abbrev pub size : Block → ℕ
size b = 8 + length b.payload

-- its bytes
unfoldable pub spelled : Block → List ℕ
spelled b = to_le_bytes w32 (length b.payload) ++ to_le_bytes w32 (if b.live then 1 else 0) ++ b.payload

-- the bytes of blocks that stand one after another
abbrev pub bytes_of : List Block → List ℕ
bytes_of blocks = flat_map spelled blocks

-- the block that bytes begin with
unfoldable pub front_block : List ℕ → Block
front_block bytes = record { live = from_le_bytes w32 (drop 4 bytes) == 1; payload = take (from_le_bytes w32 bytes) (drop 8 bytes) }

-- the blocks that bytes spell, at most so many
unfoldable pub read_blocks : ℕ → List ℕ → List Block
read_blocks zero bytes = []
read_blocks (suc most) bytes = if nat_lt (length bytes) 8 then [] else front_block bytes ∷ read_blocks most (drop (size (front_block bytes)) bytes)

unfoldable pub blocks_in : List ℕ → List Block
blocks_in bytes = read_blocks (length bytes) bytes

-- the block whose head stands at this byte of the chunk
unfoldable pub found : List Block → ℕ → Option Block
found [] at = None
found (b ∷ rest) at = if at == 0 then Some b else if nat_lt at (size b) then None else found rest (at - size b)

-- the blocks with others in place of the one whose head stands at this byte
unfoldable pub replaced : List Block → ℕ → List Block → List Block
replaced [] at new = []
replaced (b ∷ rest) at new = if at == 0 then new ++ rest else b ∷ replaced rest (at - size b) new

-- each block's length fits its head
abbrev pub AreShort : List Block → Type 0
AreShort [] = Unit {0}
AreShort (b ∷ rest) = (length b.payload < 2 ^ 32) × AreShort rest

-- the bytes are those of the blocks that they spell
pub record IsTiled (bytes : List ℕ) : Type 0 where
  pub short : AreShort (blocks_in bytes)
  pub spelled_by : bytes_of (blocks_in bytes) ≡ bytes
