-- The bytes of a value, as keys have them: a tag that names the kind, and what the kind needs.
use Rattle.std.specs.Prelude.{◌≡◌, ℕ, if◌then◌else◌, List, [], ◌∷◌, ◌++◌, length, map, All}
use Rattle.std.specs.List.{flat_map}
use Rattle.std.specs.Int.{cast_unsigned, bytes_high_first, w64}
use Rattle.vx_value.specs.declared.value.Value.{Value}
use Rattle.vx_value.specs.declared.value.Value.TheVariants as value
use Rattle.vx_value.specs.Value.{IsLawful}
use Rattle.vx_value.specs.Row.{Row, value_at}

-- an int in two's complement, and numbers with their highest byte first
abbrev pub value_bytes : Value → List ℕ
value_bytes value.Null = 0 ∷ []
value_bytes (value.Bool b) = 1 ∷ (if b then 1 else 0) ∷ []
value_bytes (value.Int n) = 2 ∷ bytes_high_first 8 (cast_unsigned w64 n)
value_bytes (value.Text t) = 3 ∷ bytes_high_first 2 (length t) ++ t

-- the values in these columns
abbrev pub key_values : List ℕ → Row → List Value
key_values columns row = map (value_at row) columns

-- the bytes of the values in these columns, one after another
abbrev pub key_bytes : List ℕ → Row → List ℕ
key_bytes columns row = flat_map (λ column. value_bytes (value_at row column)) columns

-- those values are what values can be
abbrev pub AreLawful : List ℕ → Row → Type 0
AreLawful columns row = All (λ column. IsLawful (value_at row column)) columns

-- only rows with the same values in these columns have these key bytes
abbrev pub Identifies : List ℕ → Row → List ℕ → Type 0
Identifies columns row bytes =
    (other : Row) → AreLawful columns other → key_bytes columns other ≡ bytes → key_values columns other ≡ key_values columns row
