-- Free blocks: their classes, the links in their payloads, and the lists that they stand in.
use Rattle.std.specs.Prelude.{◌≡◌, ℕ, ◌+◌, ◌-◌, ◌*◌, ◌<◌, ◌≤◌, nat_lt, false, Some, None, List, [], ◌∷◌, ◌++◌, length, take, drop, replicate, slice_index, if◌then◌else◌, ◌⊎◌}
use Rattle.std.specs.Int.{w64, to_le_bytes, from_le_bytes}
use Rattle.vx_raw.specs.Region.{written}
use Rattle.vx_arena.specs.Block.{Block}
use Rattle.vx_arena.specs.Chunks.{Chunks, held_by}
use Rattle.vx_arena.specs.Names.{none, block_of, named, live_at, len_at, lives}

-- how long the payloads of a class are, the classes numbered from 0
unfoldable pub class_len : ℕ → ℕ
class_len class = slice_index (16 ∷ 32 ∷ 64 ∷ 128 ∷ 256 ∷ 512 ∷ 1024 ∷ 2048 ∷ []) class

-- the greatest class that a payload of so many bytes holds
unfoldable pub class_of : ℕ → ℕ
class_of len =
    if nat_lt len 32 then 0
    else if nat_lt len 64 then 1
    else if nat_lt len 128 then 2
    else if nat_lt len 256 then 3
    else if nat_lt len 512 then 4
    else if nat_lt len 1024 then 5
    else if nat_lt len 2048 then 6
    else 7

-- the links of a free block: the name of the next in its list, and behind it that of the one before
unfoldable pub next_in : List ℕ → ℕ
next_in payload = from_le_bytes w64 payload

unfoldable pub before_in : List ℕ → ℕ
before_in payload = from_le_bytes w64 (drop 8 payload)

-- a payload with these links
unfoldable pub with_links : List ℕ → ℕ → ℕ → List ℕ
with_links payload next before = written payload 0 (to_le_bytes w64 next ++ to_le_bytes w64 before)

unfoldable pub with_before : List ℕ → ℕ → List ℕ
with_before payload before = written payload 8 (to_le_bytes w64 before)

-- a free block of this class, with these links
pub record Node (chunks : Chunks) (class before name next : ℕ) : Type 0 where
  pub block : Block
  pub is : block_of chunks name ≡ Some block
  pub free : block.live ≡ false
  pub of_class : class_of (length block.payload) ≡ class
  pub next_is : next_in block.payload ≡ next
  pub before_is : before_in block.payload ≡ before

abbrev pub first_of : List ℕ → ℕ
first_of [] = none
first_of (n ∷ rest) = n

-- free blocks of this class, each linked with the next and the one before
abbrev pub IsLinked : Chunks → ℕ → ℕ → List ℕ → Type 0
IsLinked chunks class before [] = Unit {0}
IsLinked chunks class before (n ∷ rest) = Node chunks class before n (first_of rest) × IsLinked chunks class n rest

abbrev pub IsIn : List ℕ → ℕ → Type 0
IsIn [] n = ⊥
IsIn (m ∷ rest) n = (n ≡ m) ⊎ IsIn rest n

-- each class has its list, from its head on, and each free block stands in that of its class
pub record IsListed (chunks : Chunks) (heads : List ℕ) : Type 0 where
  pub count : length heads ≡ 8
  pub lists : ℕ → List ℕ
  pub linked : (class : ℕ) → class < 8 → IsLinked chunks class none (lists class)
  pub first : (class : ℕ) → class < 8 → slice_index heads class ≡ first_of (lists class)
  pub all : (n : ℕ) (b : Block) → block_of chunks n ≡ Some b → b.live ≡ false → IsIn (lists (class_of (length b.payload))) n
  pub long : (n : ℕ) (b : Block) → block_of chunks n ≡ Some b → 16 ≤ length b.payload
  pub none_is : block_of chunks none ≡ None
  pub held : held_by chunks ≡ 4096 * length chunks

-- what stands before a block in its list was set, where the name is one of a block
pub record SetsBefore (before after : Chunks) (name value : ℕ) : Type 0 where
  pub there : (b : Block) → block_of before name ≡ Some b → block_of after name ≡ Some (record { live = b.live; payload = with_before b.payload value })
  pub gone : block_of before name ≡ None → block_of after name ≡ None
  pub others : (n : ℕ) → (n ≡ name → ⊥) → block_of after n ≡ block_of before n
  pub none_is : block_of after none ≡ block_of before none
  pub count : lives after ≡ lives before
  pub held : held_by after ≡ held_by before
  pub many : length after ≡ length before

-- a live block has this name
abbrev pub IsLive : Chunks → ℕ → Type 0
IsLive chunks name = live_at chunks name ≡ Some (named chunks name).payload

-- the block of this name is live no more, and all other live blocks are as they were; none changed its length
pub record Frees (before after : Chunks) (name : ℕ) : Type 0 where
  pub gone : live_at after name ≡ None
  pub others : (n : ℕ) → (n ≡ name → ⊥) → live_at after n ≡ live_at before n
  pub lens : (n : ℕ) → len_at after n ≡ len_at before n
  pub count : lives after + 1 ≡ lives before
  pub held : held_by after ≡ held_by before

-- the block of this name, which was free, is live, and all other live blocks are as they were
pub record Wakes (before after : Chunks) (name : ℕ) : Type 0 where
  pub fresh : live_at before name ≡ None
  pub live : IsLive after name
  pub others : (n : ℕ) → (n ≡ name → ⊥) → live_at after n ≡ live_at before n
  pub lens : (n : ℕ) → len_at after n ≡ len_at before n
  pub count : lives after ≡ lives before + 1
  pub held : held_by after ≡ held_by before

-- what a list gives: a block of its class
pub record Gives (class : ℕ) (before after : Chunks) (name : ℕ) : Type 0 where
  pub wakes : Wakes before after name
  pub long : class_len class ≤ length (named after name).payload

-- or nothing, where no free block is of its class
pub record HasNone (class : ℕ) (before after : Chunks) : Type 0 where
  pub same : after ≡ before
  pub none_of : (n : ℕ) (b : Block) → block_of before n ≡ Some b → b.live ≡ false → class_of (length b.payload) ≡ class → ⊥

-- a block was cut in two: so many bytes of payload stay with it, and the rest is a free block
pub record Splits (before after : Chunks) (name rest len : ℕ) : Type 0 where
  pub first : block_of after name ≡ Some (record { live = (named before name).live; payload = take len (named before name).payload })
  pub second : block_of after rest ≡ Some (record { live = false; payload = drop (len + 8) (named before name).payload })
  pub some : rest ≡ none → ⊥
  pub gone : block_of before rest ≡ None
  pub others : (n : ℕ) → (n ≡ name → ⊥) → (n ≡ rest → ⊥) → block_of after n ≡ block_of before n
  pub count : lives after ≡ lives before
  pub held : held_by after ≡ held_by before
  pub many : length after ≡ length before

-- a chunk more, of one free block
pub record Adds (before after : Chunks) (name : ℕ) : Type 0 where
  pub some : name ≡ none → ⊥
  pub there : block_of after name ≡ Some (record { live = false; payload = replicate 4088 0 })
  pub gone : block_of before name ≡ None
  pub others : (n : ℕ) → (n ≡ name → ⊥) → block_of after n ≡ block_of before n
  pub count : lives after ≡ lives before
  pub held : held_by after ≡ held_by before + 4096
  pub many : length after ≡ length before + 1

-- a chunk more, of one live block
pub record Grows (before after : Chunks) (name : ℕ) : Type 0 where
  pub fresh : live_at before name ≡ None
  pub new : len_at before name ≡ None
  pub live : IsLive after name
  pub whole : length (named after name).payload ≡ 4088
  pub others : (n : ℕ) → (n ≡ name → ⊥) → live_at after n ≡ live_at before n
  pub lens : (n : ℕ) → (n ≡ name → ⊥) → len_at after n ≡ len_at before n
  pub count : lives after ≡ lives before + 1
  pub held : held_by after ≡ held_by before + 4096

-- a live block was cut into two live ones
pub record Halves (before after : Chunks) (name rest len : ℕ) : Type 0 where
  pub fresh : live_at before rest ≡ None
  pub new : len_at before rest ≡ None
  pub first : IsLive after name
  pub first_len : length (named after name).payload ≡ len
  pub second : IsLive after rest
  pub second_len : length (named after rest).payload ≡ length (named before name).payload - (len + 8)
  pub others : (n : ℕ) → (n ≡ name → ⊥) → (n ≡ rest → ⊥) → live_at after n ≡ live_at before n
  pub lens : (n : ℕ) → (n ≡ name → ⊥) → (n ≡ rest → ⊥) → len_at after n ≡ len_at before n
  pub count : lives after ≡ lives before + 1
  pub held : held_by after ≡ held_by before

-- a live block's payload is now this one, as long as it was, and all other blocks are as they were
pub record Writes (before after : Chunks) (name : ℕ) (payload : List ℕ) : Type 0 where
  pub now : live_at after name ≡ Some payload
  pub others : (n : ℕ) → (n ≡ name → ⊥) → live_at after n ≡ live_at before n
  pub lens : (n : ℕ) → len_at after n ≡ len_at before n
  pub count : lives after ≡ lives before
  pub held : held_by after ≡ held_by before
