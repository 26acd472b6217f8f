-- The line of a job whose rows aren't printed, but the hash of their lines.
use Rattle.std.specs.Prelude.{List, ◌++◌, ℕ, length, codes, decimal}
use Rattle.std.specs.Int.{bytes_high_first}
use Rattle.std.specs.List.{flat_map}
use Rattle.hex.specs.Hex.{encode_lower}
use Rattle.vx_value.specs.declared.value.Value.{Value}
use Rattle.vx_value.specs.Hash.{hash_of}
use Rattle.vx_report.specs.Sections.{row_line, error_line}
use Rattle.vx_report.specs.declared.outcomes.Outcome.{Outcome}
use Rattle.vx_report.specs.declared.outcomes.Outcome.TheVariants as outcome

-- a number of 64 bits as 16 hexadecimal digits, the highest first
abbrev pub digits : ℕ → List ℕ
digits number = encode_lower (bytes_high_first 8 number)

-- the hash of the lines of these rows
abbrev pub hash_of_lines : List (List Value) → ℕ
hash_of_lines rows = hash_of (flat_map row_line rows)

-- how many rows there are, and the hash of their lines
abbrev pub counted_rows : List (List Value) → List ℕ
counted_rows rows =
    codes "ok " ++ decimal (length rows) ++ codes " digest=" ++ digits (hash_of_lines rows) ++ codes "\n"

abbrev pub ending : Outcome → List ℕ
ending (outcome.Ok rows) = counted_rows rows
ending (outcome.Error cause) = error_line cause

-- a job's number, and its rows by their hash or why it failed
abbrev pub digest_line : ℕ → Outcome → List ℕ
digest_line job outcome = codes "job " ++ decimal job ++ codes " " ++ ending outcome
