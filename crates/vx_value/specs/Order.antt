-- The order of values, as SQL's ORDER BY has it, and that of rows by a list of keys.
use Rattle.std.specs.Prelude.{◌≢◌, ℕ, ℤ, pos, Bool, true, false, if◌then◌else◌, List, [], ◌∷◌}
use Rattle.std.specs.List.{AllPairs}
use Rattle.std.specs.declared.cmp.Ordering.{Ordering}
use Rattle.std.specs.declared.cmp.Ordering.TheVariants.{Less, Equal}
use Rattle.std.specs.Ordering.{nat_cmp, int_cmp, on, flip_args, then_cmp, ordering_then}
use Rattle.std.specs.Cmp.Lexicographic.{slice_cmp}
use Rattle.vx_value.specs.declared.sorting.SortKey.{SortKey}
use Rattle.vx_value.specs.declared.value.Value.{Value}
use Rattle.vx_value.specs.declared.value.Value.TheVariants as value
use Rattle.vx_value.specs.Value.{is_null}
use Rattle.vx_value.specs.Row.{Row, value_at}

-- null, then bools, ints and texts. Columns have one kind, so this decides between nulls and the rest alone.
abbrev pub class : Value → ℕ
class value.Null = 0
class (value.Bool b) = 1
class (value.Int n) = 2
class (value.Text t) = 3

-- false is less than true
abbrev pub number : Value → ℤ
number value.Null = pos 0
number (value.Bool b) = if b then pos 1 else pos 0
number (value.Int n) = n
number (value.Text t) = pos 0

abbrev pub text : Value → List ℕ
text value.Null = []
text (value.Bool b) = []
text (value.Int n) = []
text (value.Text t) = t

-- by class, then by the number, then by the bytes of the text: a text stands before what extends it
unfoldable pub cmp_values : Value → Value → Ordering
cmp_values = then_cmp (on class nat_cmp) (then_cmp (on number int_cmp) (on text (slice_cmp nat_cmp)))

-- ---- keys

-- a null stands before the values or after them
abbrev pub null_place : SortKey → Value → ℕ
null_place key v = if is_null v then (if key.nulls_first then 0 else 2) else 1

abbrev pub directed : {X : Type 0} → Bool → (X → X → Ordering) → X → X → Ordering
directed false cmp = cmp
directed true cmp = flip_args cmp

-- a null stands where the key says, whatever the direction, and other values are turned round where it descends
unfoldable pub by_key : SortKey → Value → Value → Ordering
by_key key = then_cmp (on (null_place key) nat_cmp) (directed key.descending cmp_values)

-- ---- rows

-- by the first key that tells two rows apart
abbrev pub cmp_rows : List SortKey → Row → Row → Ordering
cmp_rows [] a b = Equal
cmp_rows (key ∷ keys) a b = ordering_then (by_key key (value_at a key.column) (value_at b key.column)) (cmp_rows keys a b)

-- no row is followed, at any distance, by one that compares less
abbrev pub IsSortedBy : List SortKey → List Row → Type 0
IsSortedBy keys = AllPairs (λ row later. cmp_rows keys later row ≢ Less)
