-- A row's body: what each of its fields stores. A field is null by its null bit, or stores what its own bytes spell.
use Rattle.std.specs.Prelude.{◌≡◌, ℕ, ℤ, ◌/◌, ◌%◌, ◌^◌, ◌<◌, ◌≤◌, nat_le, Bool, true, false, List, [], ◌∷◌, length, map, take, drop, slice_index, slice_set, if◌then◌else◌, FitsSigned, ⊤}
use Rattle.std.specs.List.{range_with_len}
use Rattle.std.specs.Int.{w64}
use Rattle.vx_raw.specs.declared.place.Place.{Place}
use Rattle.vx_raw.specs.Region.{written}
use Rattle.vx_records.specs.Record.{RecordsModel, record_at, with_record}
use Rattle.vx_value.specs.declared.value.Kind.{Kind}
use Rattle.vx_value.specs.declared.value.Kind.TheVariants as kind
use Rattle.vx_rows.specs.declared.fields.Extra.{Extra}
use Rattle.vx_rows.specs.declared.fields.Extra.TheVariants as extra
use Rattle.vx_rows.specs.declared.field.FieldRef.{FieldRef}
use Rattle.vx_rows.specs.declared.field.FieldRef.TheVariants as lent
use Rattle.vx_rows.specs.Layout.{field_at, field_len, place_of}
use Rattle.vx_rows.specs.Nulls.{is_null_in, SetsBit}
use Rattle.vx_rows.specs.Slot.{bool_in, front_in, int_in, len_in, place_in_slot, short_in, spelled_bool, spelled_int, spelled_long, spelled_short}

-- what a field stores: a text of more than 12 bytes by its length, its first 4 bytes and its place in the arena
pub data Stored : Type 0 where
  null : Stored
  bool : Bool → Stored
  int : ℤ → Stored
  short : List ℕ → Stored
  long : ℕ → List ℕ → Place → Stored
  raw : List ℕ → Stored

-- what is lent of it
abbrev pub seen : FieldRef → Stored
seen lent.Null = null
seen (lent.Bool b) = bool b
seen (lent.Int n) = int n
seen (lent.Short text) = short text.now
seen (lent.Long len front at) = long len front.now at
seen (lent.Raw bytes) = raw bytes.now

-- ---- read

abbrev pub read_slot : Kind → List ℕ → Stored
read_slot kind.Bool slot = bool (bool_in slot)
read_slot kind.Int slot = int (int_in slot)
read_slot kind.Text slot = if nat_le (len_in slot) 12 then short (short_in slot) else long (len_in slot) (front_in slot) (place_in_slot slot)

abbrev pub read_field : Extra → Bool → List ℕ → Stored
read_field (extra.Bytes count) is_null bytes = raw bytes
read_field (extra.Slot k) is_null bytes = if is_null then null else read_slot k bytes

-- the bytes of a field
abbrev pub bytes_of : List Extra → List ℕ → ℕ → List ℕ
bytes_of fields body which = take (field_len (field_at fields which)) (drop (place_of fields which) body)

unfoldable pub stored_in : List Extra → List ℕ → ℕ → Stored
stored_in fields body which = read_field (field_at fields which) (is_null_in body which) (bytes_of fields body which)

-- what all fields store, in their order
unfoldable pub all_stored : List Extra → List ℕ → List Stored
all_stored fields body = map (stored_in fields body) (range_with_len 0 (length fields))

-- ---- written

-- a longer text
pub record IsLong (len : ℕ) (front : List ℕ) (place : Place) : Type 0 where
  pub least : 12 < len
  pub most : len < 2 ^ 32
  pub four : length front ≡ 4
  pub chunk : place.chunk < 2 ^ 32
  pub near : place.at < 2 ^ 32

abbrev pub CanBeSpelled : Stored → Type 0
CanBeSpelled (int n) = FitsSigned w64 n
CanBeSpelled (short text) = length text ≤ 12
CanBeSpelled (long len front place) = IsLong len front place
CanBeSpelled _ = ⊤

-- which fields store this
abbrev pub IsOf : Extra → Stored → Type 0
IsOf (extra.Bytes count) (raw bytes) = length bytes ≡ count
IsOf (extra.Slot k) null = ⊤
IsOf (extra.Slot k) (bool b) = k ≡ kind.Bool
IsOf (extra.Slot k) (int n) = k ≡ kind.Int
IsOf (extra.Slot k) (short text) = k ≡ kind.Text
IsOf (extra.Slot k) (long len front place) = k ≡ kind.Text
IsOf _ _ = ⊥

-- what can be put into a field
pub record FitsField (field : Extra) (stored : Stored) : Type 0 where
  pub kind_is : IsOf field stored
  pub value : CanBeSpelled stored

abbrev pub is_null : Stored → Bool
is_null null = true
is_null _ = false

-- the bytes that are written into the field: none where it is null
abbrev pub spelled : Stored → List ℕ
spelled null = []
spelled (bool b) = spelled_bool b
spelled (int n) = spelled_int n
spelled (short text) = spelled_short text
spelled (long len front place) = spelled_long len front place
spelled (raw bytes) = bytes

-- a null bit is set or cleared, and the field's bytes are written
pub record Puts (fields : List Extra) (before after : List ℕ) (which : ℕ) (stored : Stored) : Type 0 where
  pub byte : ℕ
  pub bit : SetsBit (slice_index before (which / 8)) byte (which % 8) (is_null stored)
  pub is : after ≡ written (written before (which / 8) (byte ∷ [])) (place_of fields which) (spelled stored)

-- a field of a record stores this, and all others what they did; no other record has changed
pub record SetsField (fields : List Extra) (before after : RecordsModel) (number which : ℕ) (stored : Stored) : Type 0 where
  pub body : List ℕ
  pub is : after ≡ with_record before number (record (record_at before number) { body = body })
  pub stores : all_stored fields body ≡ slice_set (all_stored fields (record_at before number).body) which stored
