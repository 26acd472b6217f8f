-- Texts as chains of live blocks. A block's payload has 8 bytes for the name of the next block, all bits
-- set in the last, and then up to 2,040 bytes of text; each block but the last is full.
use Rattle.std.specs.Prelude.{◌≡◌, ◌≢◌, ℕ, zero, suc, ◌+◌, ◌-◌, ◌*◌, ◌/◌, ◌%◌, ◌^◌, ◌<◌, ◌≤◌, ◌==◌, Some, None, List, [], ◌∷◌, ◌++◌, length, take, drop, unwrap_or, min, if◌then◌else◌}
use Rattle.std.specs.List.{flat_map}
use Rattle.vx_raw.specs.declared.place.Place.{Place}
use Rattle.vx_arena.specs.Chunks.{Chunks, held_by}
use Rattle.vx_arena.specs.Names.{name_of, none, live_at, lives}
use Rattle.vx_arena.specs.Free.{class_len, next_in, IsIn}
use Rattle.vx_arena.specs.Part.{class_for, Pays, Takes}

-- what contracts see of an arena: its blocks, and how many were taken and given modulo 2^64
pub record ArenaModel : Type 0 where
  pub chunks : Chunks
  pub taken : ℕ
  pub given : ℕ

-- a count that starts anew at 2^64
abbrev pub more : ℕ → ℕ → ℕ
more count n = (count + n) % 2 ^ 64

-- the payload of a live block
unfoldable pub payload_at : Chunks → ℕ → List ℕ
payload_at chunks name = unwrap_or (live_at chunks name) []

abbrev pub StandsLive : Chunks → ℕ → Type 0
StandsLive chunks name = live_at chunks name ≡ Some (payload_at chunks name)

-- the name of the block behind it in its chain, and its part of the text
abbrev pub next_at : Chunks → ℕ → ℕ
next_at chunks name = next_in (payload_at chunks name)

abbrev pub part_at : Chunks → ℕ → List ℕ
part_at chunks name = take 2040 (drop 8 (payload_at chunks name))

-- a chain's block: it is the one that was named, it is live, and it doesn't stand in the chain again
pub record Stands (chunks : Chunks) (first name : ℕ) (rest : List ℕ) : Type 0 where
  pub is : first ≡ name
  pub some : name ≢ none
  pub live : StandsLive chunks name
  pub once : IsIn rest name → ⊥

-- the chain of live blocks that begins with the block of this name
abbrev pub IsChain : Chunks → ℕ → List ℕ → Type 0
IsChain chunks first [] = first ≡ none
IsChain chunks first (name ∷ rest) = Stands chunks first name rest × IsChain chunks (next_at chunks name) rest

-- the bytes of a chain: a text, and what fills its last block
abbrev pub bytes_in : Chunks → List ℕ → List ℕ
bytes_in chunks names = flat_map (part_at chunks) names

-- no live block has a link to it
abbrev pub IsUnnamed : Chunks → ℕ → Type 0
IsUnnamed chunks name = (n : ℕ) → StandsLive chunks n → next_at chunks n ≡ name → name ≡ none

-- a live chain's first block has this name: at most 33 blocks, which hold 65,535 bytes
pub record HasText (chunks : Chunks) (name : ℕ) : Type 0 where
  pub names : List ℕ
  pub chain : IsChain chunks name names
  pub few : length names ≤ 33
  pub first : IsUnnamed chunks name
  pub some : name ≢ none

pub record IsText (arena : ArenaModel) (place : Place) : Type 0 where
  pub text : HasText arena.chunks (name_of place)
  pub near : place.at < 2 ^ 32

-- the bytes of the chain that begins at a place
unfoldable pub bytes_from : ℕ → Chunks → ℕ → List ℕ
bytes_from zero chunks name = []
bytes_from (suc most) chunks name = if name == none then [] else part_at chunks name ++ bytes_from most chunks (next_at chunks name)

abbrev pub bytes_at : ArenaModel → Place → List ℕ
bytes_at arena place = bytes_from 33 arena.chunks (name_of place)

-- the text of so many bytes at a place: how long it is its owner knows
abbrev pub text_at : ArenaModel → Place → ℕ → List ℕ
text_at arena place len = take len (bytes_at arena place)

-- how many blocks the chain has that begins at a place
unfoldable pub count_from : ℕ → Chunks → ℕ → ℕ
count_from zero chunks name = 0
count_from (suc most) chunks name = if name == none then 0 else suc (count_from most chunks (next_at chunks name))

abbrev pub count_at : ArenaModel → Place → ℕ
count_at arena place = count_from 33 arena.chunks (name_of place)

-- the text at a place is this one
abbrev pub Reads : ArenaModel → Place → List ℕ → Type 0
Reads arena place text = take (length text) (bytes_at arena place) ≡ text

-- how many blocks a text of so many bytes has
abbrev pub blocks_of : ℕ → ℕ
blocks_of bytes = (bytes + 2039) / 2040

-- how many bytes the block of a part of so many bytes takes
unfoldable pub block_bytes : ℕ → ℕ
block_bytes part = 8 + class_len (class_for (8 + part))

-- how many bytes the blocks of a text take: the full ones and the last
unfoldable pub cost_of : ℕ → ℕ
cost_of bytes =
    if bytes == 0 then 0
    else block_bytes 2040 * ((bytes - 1) / 2040) + block_bytes (bytes - 2040 * ((bytes - 1) / 2040))

-- a live block's link names a live block or none, and no two name the same: so no block stands in two chains
pub record IsChained (chunks : Chunks) : Type 0 where
  pub closed : (n : ℕ) → StandsLive chunks n → next_at chunks n ≢ none → StandsLive chunks (next_at chunks n)
  pub alone : (m n : ℕ) → StandsLive chunks m → StandsLive chunks n → next_at chunks m ≡ next_at chunks n → next_at chunks m ≢ none → m ≡ n

-- what an arena keeps
pub record IsArena (chunks : Chunks) (taken given : ℕ) : Type 0 where
  pub counted : taken ≡ more given (lives chunks)
  pub fits : given < 2 ^ 64
  pub chained : IsChained chunks

-- a block that the next part's block may name
pub record CanFollow (chunks : Chunks) (name : ℕ) : Type 0 where
  pub live : name ≢ none → StandsLive chunks name
  pub first : IsUnnamed chunks name

-- the blocks of a text of so many bytes were taken one after another, that of the last part first: each as its part
-- asks, a free one or, where each free block was shorter than the part's class, one of a new chunk
abbrev pub TakesBlocks : Chunks → Chunks → List ℕ → ℕ → Type 0
TakesBlocks before after [] bytes = after ≡ before
TakesBlocks before after (name ∷ rest) bytes = (middle : Chunks) × TakesBlocks before middle rest (bytes - 2040) × Takes (class_for (8 + min bytes 2040)) middle after name

-- blocks for at most so many bytes were taken so; the chunks that were made for them are left
pub record TakesSome (before after : Chunks) (most : ℕ) : Type 0 where
  pub middle : Chunks
  pub names : List ℕ
  pub bytes : ℕ
  pub within : bytes ≤ most
  pub takes : TakesBlocks before middle names bytes
  pub held : held_by after ≡ held_by middle

-- one block more is live: it holds this part, and names this block
pub record AddsPart (before after : ArenaModel) (name next : ℕ) (part : List ℕ) : Type 0 where
  pub fresh : live_at before.chunks name ≡ None
  pub live : StandsLive after.chunks name
  pub link : next_at after.chunks name ≡ next
  pub holds : take (length part) (drop 8 (payload_at after.chunks name)) ≡ part
  pub first : IsUnnamed after.chunks name
  pub some : name ≢ none
  pub others : (n : ℕ) → (n ≡ name → ⊥) → live_at after.chunks n ≡ live_at before.chunks n
  pub taken : after.taken ≡ more before.taken 1
  pub given : after.given ≡ before.given
  pub takes : Takes (class_for (8 + length part)) before.chunks after.chunks name
  pub pays : Pays before.chunks after.chunks (block_bytes (length part))

-- one block is live no more; the one that it named follows none now
pub record GivesPart (before after : ArenaModel) (name next : ℕ) : Type 0 where
  pub link : next ≡ next_at before.chunks name
  pub gone : live_at after.chunks name ≡ None
  pub first : IsUnnamed after.chunks next
  pub count : lives after.chunks + 1 ≡ lives before.chunks
  pub others : (n : ℕ) → (n ≡ name → ⊥) → live_at after.chunks n ≡ live_at before.chunks n
  pub taken : after.taken ≡ before.taken
  pub given : after.given ≡ more before.given 1
  pub pays : Pays before.chunks after.chunks 0

-- exactly the blocks of this chain are live that weren't, the text there is the one given, and all other live
-- blocks are as they were
pub record TakesText (before after : ArenaModel) (first : ℕ) (text : List ℕ) : Type 0 where
  pub names : List ℕ
  pub chain : IsChain after.chunks first names
  pub reads : take (length text) (bytes_in after.chunks names) ≡ text
  pub blocks : length names ≡ blocks_of (length text)
  pub fresh : (n : ℕ) → IsIn names n → live_at before.chunks n ≡ None
  pub others : (n : ℕ) → (IsIn names n → ⊥) → live_at after.chunks n ≡ live_at before.chunks n
  pub taken : after.taken ≡ more before.taken (blocks_of (length text))
  pub given : after.given ≡ before.given
  pub unnamed : IsUnnamed after.chunks first
  pub takes : TakesBlocks before.chunks after.chunks names (length text)
  pub pays : Pays before.chunks after.chunks (cost_of (length text))

-- no block is live that wasn't; what was taken was given back
pub record TakesNothing (before after : ArenaModel) (text : List ℕ) : Type 0 where
  pub same : (n : ℕ) → live_at after.chunks n ≡ live_at before.chunks n
  pub blocks : ℕ
  pub taken : after.taken ≡ more before.taken blocks
  pub given : after.given ≡ more before.given blocks
  pub takes : TakesSome before.chunks after.chunks (length text)
  pub pays : Pays before.chunks after.chunks (cost_of (length text))

-- exactly the blocks of this chain are live no more, and all other live blocks are as they were
pub record GivesText (before after : ArenaModel) (names : List ℕ) : Type 0 where
  pub gone : (n : ℕ) → IsIn names n → live_at after.chunks n ≡ None
  pub others : (n : ℕ) → (IsIn names n → ⊥) → live_at after.chunks n ≡ live_at before.chunks n
  pub taken : after.taken ≡ before.taken
  pub given : after.given ≡ more before.given (length names)
  pub pays : Pays before.chunks after.chunks 0

-- a chain of live blocks begins there, and none names its first
pub record HasChain (chunks : Chunks) (first : ℕ) : Type 0 where
  pub names : List ℕ
  pub chain : IsChain chunks first names
  pub unnamed : IsUnnamed chunks first

abbrev pub GivesAll : ArenaModel → ArenaModel → ℕ → Type 0
GivesAll before after first = (names : List ℕ) → IsChain before.chunks first names → GivesText before after names

-- a text is where it was, with the bytes that it had in as many blocks
pub record StaysText (before after : ArenaModel) (place : Place) : Type 0 where
  pub there : IsText after place
  pub bytes : bytes_at after place ≡ bytes_at before place
  pub count : count_at after place ≡ count_at before place

-- each text stays
abbrev pub KeepsTexts : ArenaModel → ArenaModel → Type 0
KeepsTexts before after = (place : Place) → IsText before place → StaysText before after place

-- each text stays but the one at this place
abbrev pub KeepsOthers : ArenaModel → ArenaModel → Place → Type 0
KeepsOthers before after gone = (place : Place) → IsText before place → (name_of place ≡ name_of gone → ⊥) → StaysText before after place

-- no text is at this place
abbrev pub IsNew : ArenaModel → Place → Type 0
IsNew arena new = (place : Place) → IsText arena place → name_of place ≡ name_of new → ⊥
