-- The text of a row.
use Rattle.std.specs.Prelude.{Bool as Truth, List, [], ◌∷◌, ◌++◌, ℕ, ◌/◌, ◌%◌, map, codes, true, false}
use Rattle.std.specs.Char.{digit_char}
use Rattle.std.specs.Fmt.{signed_decimal}
use Rattle.std.specs.List.{flat_map, join_with_byte}
use Rattle.std.specs.Str.{byte}
use Rattle.json.specs.Print.{quoted}
use Rattle.vx_value.specs.declared.value.Value.{Value}
use Rattle.vx_value.specs.declared.value.Value.TheVariants.{Null, Bool, Int, Text}

-- `\u00` and the two hexadecimal digits of a byte
abbrev pub code_text : ℕ → List ℕ
code_text code = codes "\\u00" ++ digit_char (code / 16) ∷ digit_char (code % 16) ∷ []

-- a cell as JSON (RFC 8259), a text by the shortest escapes
abbrev pub cell_text : Value → List ℕ
cell_text Null = codes "null"
cell_text (Bool true) = codes "true"
cell_text (Bool false) = codes "false"
cell_text (Text text) = quoted text
cell_text (Int number) = signed_decimal number

-- cells with commas between them
abbrev pub cells_text : List Value → List ℕ
cells_text cells = join_with_byte (byte ",") (map cell_text cells)

-- cells with a comma before each
abbrev pub rest_text : List Value → List ℕ
rest_text cells = flat_map (λ cell. byte "," ∷ cell_text cell) cells

-- a row as a compact JSON array
abbrev pub row_text : List Value → List ℕ
row_text cells = codes "[" ++ cells_text cells ++ codes "]"

-- a cell that is printed as a JSON string
abbrev pub is_text : Value → Truth
is_text (Text text) = true
is_text _ = false
