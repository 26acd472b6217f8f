-- Records of one length by number, and what each call does to them.
use Rattle.std.specs.Prelude.{◌≡◌, ℕ, ◌+◌, ◌*◌, ◌/◌, ◌^◌, ◌<◌, ◌≤◌, Bool, false, Option, Some, None, IsSome, List, [], ◌∷◌, ◌++◌, length, unwrap_or, slice_index_or, slice_set}
use Rattle.std.specs.Int.{div_ceil}

-- the number of the record that it leads to, its mark, and its bytes
pub record Record : Type 0 where
  pub next : Option ℕ
  pub matched : Bool
  pub body : List ℕ

-- how many bytes each record has, and the record of each number in order, None where the number is free
pub record RecordsModel : Type 0 where
  pub len : ℕ
  pub records : List (Option Record)

-- the record of this number, None where the number is free or there is no such number
abbrev pub record_in : RecordsModel → ℕ → Option Record
record_in m number = slice_index_or m.records number None

-- the record of a live number
abbrev pub record_at : RecordsModel → ℕ → Record
record_at m number = unwrap_or (record_in m number) (record { next = None; matched = false; body = [] })

-- a record has this number
abbrev pub IsLive : RecordsModel → ℕ → Type 0
IsLive m number = record_in m number ≡ Some (record_at m number)

-- a record that leads to none and isn't matched
abbrev pub fresh : List ℕ → Record
fresh body = record { next = None; matched = false; body = body }

-- another record in place of that of this number, and all others as they were
abbrev pub with_record : RecordsModel → ℕ → Record → RecordsModel
with_record m number r = record { len = m.len; records = slice_set m.records number (Some r) }

-- this number is free, and all others are as they were
abbrev pub without_record : RecordsModel → ℕ → RecordsModel
without_record m number = record { len = m.len; records = slice_set m.records number None }

-- a record of one number more
abbrev pub and_record : RecordsModel → Record → RecordsModel
and_record m r = record { len = m.len; records = m.records ++ Some r ∷ [] }

-- each number has a record
abbrev pub HasNoFree : RecordsModel → Type 0
HasNoFree m = (k : ℕ) → k < length m.records → IsSome (record_in m k)

-- a record was added: at a number that was free, or at the next one where none was free
pub record AddsRecord (before after : RecordsModel) (number : ℕ) (new : Record) : Type 0 where
  pub len : after.len ≡ before.len
  -- it is there now, where none was, and all others are as they were
  pub free : record_in before number ≡ None
  pub there : record_in after number ≡ Some new
  pub others : (k : ℕ) → (k ≡ number → ⊥) → record_in after k ≡ record_in before k
  -- exactly
  pub near : number ≤ length before.records
  pub again : number < length before.records → after ≡ with_record before number new
  pub next : number ≡ length before.records → after ≡ and_record before new
  pub needed : number ≡ length before.records → HasNoFree before
  pub count : length after.records ≤ length before.records + 1
  -- at most 16 gibibytes of records; a head spells one more than a number
  pub low : number < 2 ^ 31
  pub fits : number + 1 < 2 ^ 32

-- how many records of so many bytes a chunk of 4,096 bytes holds, each with a head of 8
abbrev pub rows_a_chunk : ℕ → ℕ
rows_a_chunk len = 4096 / (8 + len)

-- how many bytes the chunks of so many numbers have
abbrev pub chunk_bytes : ℕ → ℕ → ℕ
chunk_bytes len count = 4096 * div_ceil count (rows_a_chunk len)
