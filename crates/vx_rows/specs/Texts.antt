-- What is stored, with its texts in an arena: which values it stands for, and what calls do to an arena that holds
-- the texts of many rows.
use Rattle.std.specs.Prelude.{◌≡◌, ℕ, ◌<◌, ◌≤◌, eqb, nat_le, Bool, false, List, [], ◌∷◌, ◌++◌, length, map, take, drop, get_or, replicate, if◌then◌else◌, All, ⊤}
use Rattle.std.specs.List.{sum_by, IsDistinct}
use Rattle.vx_raw.specs.declared.place.Place.{Place}
use Rattle.vx_arena.specs.Names.{name_of}
use Rattle.vx_arena.specs.Part.{Pays}
use Rattle.vx_arena.specs.Text.{ArenaModel, IsText, blocks_of, bytes_at, cost_of, count_at, more}
use Rattle.vx_value.specs.declared.value.Value.{Value}
use Rattle.vx_value.specs.declared.value.Value.TheVariants as value
use Rattle.vx_value.specs.Value.{IsText as IsLawfulText}
use Rattle.vx_value.specs.declared.value.Kind.{Kind}
use Rattle.vx_vector.specs.Column.{FitsKind}
use Rattle.vx_value.specs.declared.value.Kind.TheVariants as kind
use Rattle.vx_rows.specs.declared.fields.Extra.{Extra}
use Rattle.vx_rows.specs.declared.fields.Extra.TheVariants as extra
use Rattle.vx_rows.specs.Layout.{field_at}
use Rattle.vx_rows.specs.Body.{Stored, null, bool, int, short, long, raw, CanBeSpelled, IsOf}

-- the value that is stored; bytes are none
abbrev pub value_of : ArenaModel → Stored → Value
value_of arena null = value.Null
value_of arena (bool b) = value.Bool b
value_of arena (int n) = value.Int n
value_of arena (short text) = value.Text text
value_of arena (long len front place) = value.Text (take len (bytes_at arena place))
value_of arena (raw bytes) = value.Null

-- a text of this length stands there, and begins so
pub record StandsAt (arena : ArenaModel) (len : ℕ) (front : List ℕ) (place : Place) : Type 0 where
  pub is_text : IsText arena place
  pub lawful : IsLawfulText (take len (bytes_at arena place))
  pub whole : length (take len (bytes_at arena place)) ≡ len
  pub front_is : take 4 (take len (bytes_at arena place)) ≡ front
  pub blocks : count_at arena place ≡ blocks_of len
  pub least : 12 < len

-- a text that stands in its slot
pub record IsShort (text : List ℕ) : Type 0 where
  pub lawful : IsLawfulText text
  pub few : length text ≤ 12

abbrev pub IsKept : ArenaModel → Stored → Type 0
IsKept arena (short text) = IsShort text
IsKept arena (long len front place) = StandsAt arena len front place
IsKept arena _ = ⊤

-- two texts stand at one place
abbrev pub same_place : Stored → Stored → Bool
same_place (long len front place) (long len2 front2 place2) = eqb (name_of place) (name_of place2)
same_place _ _ = false

-- an arena holds all longer texts of what is stored, no two at one place
pub record Holds (arena : ArenaModel) (stored : List Stored) : Type 0 where
  pub each : All (IsKept arena) stored
  pub apart : IsDistinct same_place stored

-- ---- blocks

abbrev pub blocks_in : Stored → ℕ
blocks_in (long len front place) = blocks_of len
blocks_in _ = 0

-- how many blocks a value has in the arena, and how many bytes they have
abbrev pub blocks_of_value : Value → ℕ
blocks_of_value (value.Text t) = if nat_le (length t) 12 then 0 else blocks_of (length t)
blocks_of_value _ = 0

abbrev pub text_cost : Value → ℕ
text_cost (value.Text t) = if nat_le (length t) 12 then 0 else cost_of (length t)
text_cost _ = 0

-- ---- what calls do, whatever else the arena holds

abbrev pub SameValue : ArenaModel → ArenaModel → Stored → Type 0
SameValue before after s = value_of after s ≡ value_of before s

-- it holds these too now
pub record Adds (before after : ArenaModel) (new : List Stored) (cost : ℕ) : Type 0 where
  pub holds : (others : List Stored) → Holds before others → Holds after (new ++ others)
  pub values : (others : List Stored) → Holds before others → All (SameValue before after) others
  pub taken : after.taken ≡ more before.taken (sum_by blocks_in new)
  pub given : after.given ≡ before.given
  pub pays : Pays before.chunks after.chunks cost

-- this is stored for a value, and it holds it
pub record Stores (before after : ArenaModel) (v : Value) (stored : Stored) : Type 0 where
  pub adds : Adds before after (stored ∷ []) (text_cost v)
  pub kept : IsKept after stored
  pub is : value_of after stored ≡ v
  pub spelled : CanBeSpelled stored
  pub kind_is : (k : Kind) → FitsKind k v → IsOf (extra.Slot k) stored

-- it holds these no more
pub record Frees (before after : ArenaModel) (old : List Stored) : Type 0 where
  pub holds : (others : List Stored) → Holds before (old ++ others) → Holds after others
  pub values : (others : List Stored) → Holds before (old ++ others) → All (SameValue before after) others
  pub taken : after.taken ≡ before.taken
  pub given : after.given ≡ more before.given (sum_by blocks_in old)
  pub pays : Pays before.chunks after.chunks 0

-- it holds what it held; what was taken was given back
pub record Keeps (before after : ArenaModel) (cost : ℕ) : Type 0 where
  pub holds : (others : List Stored) → Holds before others → Holds after others
  pub values : (others : List Stored) → Holds before others → All (SameValue before after) others
  pub blocks : ℕ
  pub taken : after.taken ≡ more before.taken blocks
  pub given : after.given ≡ more before.given blocks
  pub pays : Pays before.chunks after.chunks cost

-- ---- a row of a body

-- a new row's accumulators: zero bytes, and nulls
abbrev pub zero_of : Extra → Stored
zero_of (extra.Bytes count) = raw (replicate count 0)
zero_of (extra.Slot k) = null

-- what a body stores before anything is put into it
abbrev pub empty_of : List Extra → List Stored
empty_of fields = map zero_of fields

-- the first fields are slots of these kinds
pub record HasColumns (fields : List Extra) (kinds : List Kind) : Type 0 where
  pub few : length kinds ≤ length fields
  pub each : (i : ℕ) → i < length kinds → field_at fields i ≡ extra.Slot (get_or kinds i kind.Bool)

-- the first fields store these values, the others what they did, and the arena holds their texts
pub record Fills (before after : ArenaModel) (empty stored : List Stored) (cells : List Value) : Type 0 where
  pub adds : Adds before after stored (sum_by text_cost cells)
  pub is : map (value_of after) (take (length cells) stored) ≡ cells
  pub rest : drop (length cells) stored ≡ drop (length cells) empty
