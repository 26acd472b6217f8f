-- A block for a part of a text: a free one that is long enough, or one of a new chunk where there is none.
use Rattle.std.specs.Prelude.{◌≡◌, ℕ, ◌+◌, ◌-◌, ◌*◌, ◌<◌, ◌≤◌, nat_le, Some, None, length, if◌then◌else◌, ◌⊎◌}
use Rattle.vx_arena.specs.Chunks.{Chunks, held_by}
use Rattle.vx_arena.specs.Names.{none, named, live_at, len_at, lives}
use Rattle.vx_arena.specs.Free.{class_len, IsLive}

-- the least class that holds so many bytes
unfoldable pub class_for : ℕ → ℕ
class_for bytes =
    if nat_le bytes 16 then 0
    else if nat_le bytes 32 then 1
    else if nat_le bytes 64 then 2
    else if nat_le bytes 128 then 3
    else if nat_le bytes 256 then 4
    else if nat_le bytes 512 then 5
    else if nat_le bytes 1024 then 6
    else 7

-- a free block with a payload of so many bytes
pub record IsSpare (chunks : Chunks) (name len : ℕ) : Type 0 where
  pub free : live_at chunks name ≡ None
  pub long : len_at chunks name ≡ Some len

-- each free block is shorter
abbrev pub HoldsNone : ℕ → Chunks → Type 0
HoldsNone len chunks = (name n : ℕ) → IsSpare chunks name n → n < len

-- nothing was found, since no free block is as long as the class
pub record Lacks (class : ℕ) (before after : Chunks) : Type 0 where
  pub same : after ≡ before
  pub none_of : HoldsNone (class_len class) before

-- where a block came from: it was a free one, or a chunk was added since each free block was shorter
pub record Found (before after : Chunks) (name : ℕ) : Type 0 where
  pub same : len_at before name ≡ Some (length (named after name).payload)
  pub held : held_by after ≡ held_by before

pub record Added (class : ℕ) (before after : Chunks) (name : ℕ) : Type 0 where
  pub none_of : HoldsNone (class_len class) before
  pub new : len_at before name ≡ None
  pub whole : length (named after name).payload ≡ 4088
  pub held : held_by after ≡ held_by before + 4096

-- a block that was not live is, and it holds the class
pub record Obtains (class : ℕ) (before after : Chunks) (name : ℕ) : Type 0 where
  pub fresh : live_at before name ≡ None
  pub live : IsLive after name
  pub long : class_len class ≤ length (named after name).payload
  pub others : (n : ℕ) → (n ≡ name → ⊥) → live_at after n ≡ live_at before n
  pub lens : (n : ℕ) → (n ≡ name → ⊥) → len_at after n ≡ len_at before n
  pub count : lives after ≡ lives before + 1
  pub source : Found before after name ⊎ Added class before after name

-- some free block has a payload of so many bytes
pub record Rest (chunks : Chunks) (len : ℕ) : Type 0 where
  pub name : ℕ
  pub spare : IsSpare chunks name len

-- what lay behind so many bytes of a live block is a free block, where there is room for one
pub record Trims (before after : Chunks) (name len : ℕ) : Type 0 where
  pub some : name ≡ none → ⊥
  pub live : IsLive after name
  pub long : len ≤ length (named after name).payload
  pub short : length (named after name).payload < len + 24
  pub others : (n : ℕ) → (n ≡ name → ⊥) → live_at after n ≡ live_at before n
  pub lens : (n l : ℕ) → (n ≡ name → ⊥) → len_at before n ≡ Some l → len_at after n ≡ Some l
  pub rest : (length (named before name).payload < len + 24) ⊎ Rest after (length (named before name).payload - (len + 8))
  pub count : lives after ≡ lives before
  pub held : held_by after ≡ held_by before

-- what a part's block was cut from: a free one as long as this, or a whole new chunk
pub record CutFrom (before after : Chunks) (name len : ℕ) : Type 0 where
  pub was : ℕ
  pub found : len_at before name ≡ Some was
  pub rest : (was < len + 24) ⊎ Rest after (was - (len + 8))
  pub held : held_by after ≡ held_by before

pub record CutNew (before after : Chunks) (len : ℕ) : Type 0 where
  pub none_of : HoldsNone len before
  pub rest : Rest after (4088 - (len + 8))
  pub held : held_by after ≡ held_by before + 4096

-- one block that was free or wasn't there is live, at least as long as its class and too short to be cut once
-- more, and all other live blocks are as they were
pub record Takes (class : ℕ) (before after : Chunks) (name : ℕ) : Type 0 where
  pub some : name ≡ none → ⊥
  pub fresh : live_at before name ≡ None
  pub live : IsLive after name
  pub long : class_len class ≤ length (named after name).payload
  pub short : length (named after name).payload < class_len class + 24
  pub others : (n : ℕ) → (n ≡ name → ⊥) → live_at after n ≡ live_at before n
  pub lens : (n l : ℕ) → (n ≡ name → ⊥) → len_at before n ≡ Some l → len_at after n ≡ Some l
  pub count : lives after ≡ lives before + 1
  pub source : CutFrom before after name (class_len class) ⊎ CutNew before after (class_len class)

-- The bound on chunks. For each chunk but the last, at least 2,041 bytes of blocks were taken.

-- so many chunks were made while so many bytes of blocks were taken: none was; or a free block is left of which
-- all but what was taken since the last chunk but one; or the bytes that were taken are as many as that for each
pub data Paid (chunks : Chunks) (made spent : ℕ) : Type 0 where
  none_made : made ≡ 0 → Paid chunks made spent
  spare_left : (name len : ℕ) → IsSpare chunks name len → len ≤ 4088 → 2041 * made + 2047 ≤ spent + len → Paid chunks made spent
  all_paid : 2041 * made ≤ spent → Paid chunks made spent

-- so many chunks more for blocks of this cost, and none for none; all that were made are as many as the bytes taken say
pub record PaysMore (before after : Chunks) (made spent cost : ℕ) : Type 0 where
  pub chunks : ℕ
  pub held : held_by after ≡ held_by before + 4096 * chunks
  pub none : cost ≡ 0 → chunks ≡ 0
  pub paid : Paid after (made + chunks) (spent + cost)
  pub few : 2041 * (made + chunks) ≤ spent + cost + 2041

-- what was taken here may be added to what was taken before, and chunks were made accordingly
abbrev pub Pays : Chunks → Chunks → ℕ → Type 0
Pays before after cost = (made spent : ℕ) → Paid before made spent → PaysMore before after made spent cost
