-- A container of rows: what its records and its arena stand for, and what each call does to the list of its rows.
use Rattle.std.specs.Prelude.{◌≡◌, ℕ, ◌+◌, ◌^◌, ◌<◌, ◌≤◌, Bool, true, false, Option, Some, None, is_some, List, [], ◌∷◌, ◌++◌, length, map, take, drop, replicate, slice_index_or, slice_set, unwrap_or}
use Rattle.std.specs.List.{sum_by, flat_map, filter, range_with_len}
use Rattle.vx_arena.specs.Text.{ArenaModel, more}
use Rattle.vx_arena.specs.Part.{Pays}
use Rattle.vx_records.specs.Record.{Record, RecordsModel}
use Rattle.vx_value.specs.declared.value.Kind.{Kind}
use Rattle.vx_value.specs.declared.value.Kind.TheVariants as kind
use Rattle.vx_value.specs.declared.value.Value.{Value}
use Rattle.vx_value.specs.declared.value.Value.TheVariants as value
use Rattle.vx_value.specs.Row.{Row, value_at}
use Rattle.vx_rows.specs.declared.fields.Extra.{Extra}
use Rattle.vx_rows.specs.declared.fields.Extra.TheVariants as extra
use Rattle.vx_vector.specs.Column.{FitsKind}
use Rattle.vx_rows.specs.Layout.{body_len, fields_of}
use Rattle.vx_rows.specs.Body.{Stored, null, bool, int, short, long, raw, all_stored}
use Rattle.vx_rows.specs.Texts.{Holds, blocks_of_value, empty_of, value_of}

-- ---- a row

-- an accumulator: bytes, or a cell
pub data Held : Type 0 where
  bytes : List ℕ → Held
  cell : Value → Held

pub record LiveRow : Type 0 where
  pub next : Option ℕ
  pub matched : Bool
  pub cells : Row
  pub extras : List Held

-- a new row's accumulators: zero bytes, and nulls
abbrev pub zero_held : Extra → Held
zero_held (extra.Bytes count) = bytes (replicate count 0)
zero_held (extra.Slot k) = cell value.Null

abbrev pub new_row : List Extra → Row → LiveRow
new_row extras cells = record { next = None; matched = false; cells = cells; extras = map zero_held extras }

-- how many blocks a row has in the arena
abbrev pub blocks_of_held : Held → ℕ
blocks_of_held (bytes b) = 0
blocks_of_held (cell v) = blocks_of_value v

abbrev pub blocks_of_row : LiveRow → ℕ
blocks_of_row r = sum_by blocks_of_value r.cells + sum_by blocks_of_held r.extras

-- ---- the container

-- what contracts see: the rows by number, None where a number is free, and the texts
pub record ContainerModel : Type 0 where
  pub kinds : List Kind
  pub extras : List Extra
  pub rows : List (Option LiveRow)
  pub arena : ArenaModel

abbrev pub row_at : ContainerModel → ℕ → Option LiveRow
row_at container number = slice_index_or container.rows number None

-- the row of a live number
abbrev pub live : ContainerModel → ℕ → LiveRow
live container number = unwrap_or (row_at container number) (record { next = None; matched = false; cells = []; extras = [] })

abbrev pub IsLive : ContainerModel → ℕ → Type 0
IsLive container number = row_at container number ≡ Some (live container number)

-- another row in place of that of this number, and all others as they were
abbrev pub with_row : ContainerModel → ℕ → LiveRow → List (Option LiveRow)
with_row container number row = slice_set container.rows number (Some row)

-- the accumulator of a number
abbrev pub held_at : LiveRow → ℕ → Held
held_at row which = slice_index_or row.extras which (cell value.Null)

-- another accumulator in its place
abbrev pub with_held : LiveRow → ℕ → Held → LiveRow
with_held row which held = record row { extras = slice_set row.extras which held }

-- the accumulator of this number has so many bytes, or is a cell
abbrev pub HasBytes : List Extra → ℕ → ℕ → Type 0
HasBytes extras which count = slice_index_or extras which (extra.Slot kind.Bool) ≡ extra.Bytes count

abbrev pub is_bytes : Extra → Bool
is_bytes (extra.Bytes count) = true
is_bytes (extra.Slot k) = false

-- the accumulator of this number has bytes
abbrev pub IsBytes : List Extra → ℕ → Type 0
IsBytes extras which = is_bytes (slice_index_or extras which (extra.Slot kind.Bool)) ≡ true

-- it is a cell
abbrev pub IsSlot : List Extra → ℕ → Type 0
IsSlot extras which = is_bytes (slice_index_or extras which (extra.Bytes 0)) ≡ false

-- it is a cell that such a value fits
abbrev pub TakesValue : Extra → Value → Type 0
TakesValue (extra.Bytes count) v = ⊥
TakesValue (extra.Slot k) v = FitsKind k v

-- the numbers of live rows, ascending
abbrev pub live_numbers : List (Option LiveRow) → List ℕ
live_numbers rows = filter (λ n. is_some (slice_index_or rows n None)) (range_with_len 0 (length rows))

-- how many rows there are
abbrev pub one_of : Option LiveRow → ℕ
one_of None = 0
one_of (Some row) = 1

abbrev pub row_count : List (Option LiveRow) → ℕ
row_count rows = sum_by one_of rows

-- the values of these columns
abbrev pub key_values : List ℕ → Row → List Value
key_values columns row = map (value_at row) columns

-- ---- what the code keeps

-- of fields so many are columns
abbrev pub kind_in : Extra → Kind
kind_in (extra.Slot k) = k
kind_in (extra.Bytes count) = kind.Bool

abbrev pub kinds_in : ℕ → List Extra → List Kind
kinds_in columns fields = map kind_in (take columns fields)

abbrev pub extras_in : ℕ → List Extra → List Extra
extras_in columns fields = drop columns fields

abbrev pub held_of : ArenaModel → Stored → Held
held_of arena (raw b) = bytes b
held_of arena null = cell value.Null
held_of arena (bool b) = cell (value.Bool b)
held_of arena (int n) = cell (value.Int n)
held_of arena (short text) = cell (value.Text text)
held_of arena (long len front place) = cell (value_of arena (long len front place))

-- the row of a record: its first fields are its columns, the others its accumulators
abbrev pub row_in : ArenaModel → ℕ → List Extra → Record → LiveRow
row_in arena columns fields r = record {
  next = r.next;
  matched = r.matched;
  cells = map (value_of arena) (take columns (all_stored fields r.body));
  extras = map (held_of arena) (drop columns (all_stored fields r.body));
}

abbrev pub live_in : ArenaModel → ℕ → List Extra → Option Record → Option LiveRow
live_in arena columns fields None = None
live_in arena columns fields (Some r) = Some (row_in arena columns fields r)

abbrev pub rows_in : ArenaModel → ℕ → List Extra → List (Option Record) → List (Option LiveRow)
rows_in arena columns fields records = map (live_in arena columns fields) records

-- all that records store
abbrev pub stored_by : List Extra → Option Record → List Stored
stored_by fields None = []
stored_by fields (Some r) = all_stored fields r.body

abbrev pub stored_of : List Extra → List (Option Record) → List Stored
stored_of fields records = flat_map (stored_by fields) records

-- the arena holds the texts of all records, and a body without anything is at hand
pub record IsContainer (columns : ℕ) (fields : List Extra) (records : RecordsModel) (arena : ArenaModel) (empty scratch : List ℕ) : Type 0 where
  pub shape : fields ≡ fields_of (kinds_in columns fields) (extras_in columns fields)
  pub few : columns ≤ length fields
  pub len : records.len ≡ body_len fields
  pub whole : length empty ≡ body_len fields
  pub nothing : all_stored fields empty ≡ empty_of fields
  pub room : length scratch ≡ body_len fields
  pub holds : Holds arena (stored_of fields records.records)

-- ---- what calls do

-- a number that was free, or the next one, has this row now; all others are as they were
pub record AddsRow (before after : List (Option LiveRow)) (number : ℕ) (row : LiveRow) : Type 0 where
  pub free : slice_index_or before number None ≡ None
  pub there : slice_index_or after number None ≡ Some row
  pub others : (n : ℕ) → (n ≡ number → ⊥) → slice_index_or after n None ≡ slice_index_or before n None
  -- exactly
  pub near : number ≤ length before
  pub again : number < length before → after ≡ slice_set before number (Some row)
  pub next : number ≡ length before → after ≡ before ++ Some row ∷ []
  pub needed : number ≡ length before → (n : ℕ) → n < length before → is_some (slice_index_or before n None) ≡ true
  pub count : length after ≤ length before + 1
  pub low : number < 2 ^ 31
  pub fits : number + 1 < 2 ^ 32

-- so many blocks were taken, and none was given
pub record Takes (before after : ArenaModel) (blocks cost : ℕ) : Type 0 where
  pub taken : after.taken ≡ more before.taken blocks
  pub given : after.given ≡ before.given
  pub pays : Pays before.chunks after.chunks cost

-- what was taken was given back
pub record TakesBack (before after : ArenaModel) (cost : ℕ) : Type 0 where
  pub blocks : ℕ
  pub taken : after.taken ≡ more before.taken blocks
  pub given : after.given ≡ more before.given blocks
  pub pays : Pays before.chunks after.chunks cost

-- so many blocks were given back, and none was taken
pub record Gives (before after : ArenaModel) (blocks : ℕ) : Type 0 where
  pub taken : after.taken ≡ before.taken
  pub given : after.given ≡ more before.given blocks
  pub pays : Pays before.chunks after.chunks 0

-- so many blocks were taken, and then so many given back
pub record Changes (before after : ArenaModel) (new old cost : ℕ) : Type 0 where
  pub taken : after.taken ≡ more before.taken new
  pub given : after.given ≡ more before.given old
  pub pays : Pays before.chunks after.chunks cost
