-- The fields of an object, and what simple ones hold.
use Rattle.std.specs.Prelude.{ℕ, ◌+◌, ◌&&◌, ◌==◌, nat_le, Bool, if◌then◌else◌, List, length, count_by, Option, Some, None, is_some, option_and_then, Result}
use Rattle.std.specs.List.{list_all}
use Rattle.serde_json.specs.Data.{Data, null, boolean, number, string, array, object}
use Rattle.serde_json.specs.Events.{members_len}
use Rattle.serde_json.specs.Find.{get, as_bool, as_number, as_u64}
use Rattle.vx_json.specs.Place.{Said, at_field, field}
use Rattle.vx_json.specs.Lists.{or_misfit}

abbrev pub has : Data → List ℕ → Bool
has d name = is_some (get name d)

-- how many fields an object has, each name once; any other value has none
abbrev pub field_count : Data → ℕ
field_count (object members) = members_len members
field_count null = 0
field_count (boolean b) = 0
field_count (number n) = 0
field_count (string s) = 0
field_count (array ds) = 0

-- all required fields are there, and beside them none but optional ones
abbrev pub has_only : List (List ℕ) → List (List ℕ) → Data → Bool
has_only required optional d = list_all (has d) required && (field_count d == length required + count_by (has d) optional)

-- what is read of a field
abbrev pub part : {T : Type 0} → List ℕ → (List ℕ → Data → Result T Said) → List ℕ → Data → Result T Said
part name reads path d = reads (at_field path name) (field name d)

-- a whole number from 0 to the most; one with a point or an exponent, and -0, isn't whole
abbrev pub within : ℕ → ℕ → Option ℕ
within most n = if nat_le n most then Some n else None

abbrev pub number_at : ℕ → List ℕ → Data → Result ℕ Said
number_at most path d = or_misfit path (option_and_then (within most) (option_and_then as_u64 (as_number d)))

-- ids and columns
abbrev pub small_at : List ℕ → Data → Result ℕ Said
small_at path d = number_at 65535 path d

-- counts and offsets, up to the greatest int
abbrev pub count_at : List ℕ → Data → Result ℕ Said
count_at path d = number_at 9223372036854775807 path d

abbrev pub bool_at : List ℕ → Data → Result Bool Said
bool_at path d = or_misfit path (as_bool d)
