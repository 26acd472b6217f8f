-- What the bytes of a slot stand for. Bool and int have 8 bytes. A text has 16: 4 of its length, then the text of up
-- to 12 bytes; of a longer one its first 4 bytes, 4 bytes of the chunk and 4 of the place in it, where it stands in
-- the arena. Numbers are little-endian.
use Rattle.std.specs.Prelude.{ℕ, ℤ, ◌-◌, ◌==◌, Bool, List, ◌++◌, length, take, drop, slice_index, replicate, if◌then◌else◌}
use Rattle.std.specs.Int.{w32, w64, to_le_bytes, from_le_bytes, cast_signed, cast_unsigned}
use Rattle.vx_raw.specs.declared.place.Place.{Place}

-- ---- written

unfoldable pub spelled_bool : Bool → List ℕ
spelled_bool b = to_le_bytes w64 (if b then 1 else 0)

-- an int in two's complement
unfoldable pub spelled_int : ℤ → List ℕ
spelled_int n = to_le_bytes w64 (cast_unsigned w64 n)

unfoldable pub spelled_short : List ℕ → List ℕ
spelled_short text = to_le_bytes w32 (length text) ++ text ++ replicate (12 - length text) 0

unfoldable pub spelled_long : ℕ → List ℕ → Place → List ℕ
spelled_long len front place = to_le_bytes w32 len ++ front ++ to_le_bytes w32 place.chunk ++ to_le_bytes w32 place.at

-- ---- read

unfoldable pub bool_in : List ℕ → Bool
bool_in slot = slice_index slot 0 == 1

unfoldable pub int_in : List ℕ → ℤ
int_in slot = cast_signed w64 (from_le_bytes w64 slot)

unfoldable pub len_in : List ℕ → ℕ
len_in slot = from_le_bytes w32 slot

abbrev pub short_in : List ℕ → List ℕ
short_in slot = take (len_in slot) (drop 4 slot)

abbrev pub front_in : List ℕ → List ℕ
front_in slot = take 4 (drop 4 slot)

unfoldable pub place_in_slot : List ℕ → Place
place_in_slot slot = record { chunk = from_le_bytes w32 (drop 8 slot); at = from_le_bytes w32 (drop 12 slot) }
