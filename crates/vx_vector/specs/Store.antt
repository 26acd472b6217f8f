-- What a value puts into a typed buffer, and its mark: that of a null where it is null.
use Rattle.std.specs.Prelude.{ℕ, ℤ, pos, Bool, false, []}
use Rattle.vx_value.specs.declared.value.Value.{Value}
use Rattle.vx_value.specs.declared.value.Value.TheVariants as value
use Rattle.vx_vector.specs.Lane.{TextRow, text_row}

abbrev pub bool_in : Value → Bool
bool_in (value.Bool b) = b
bool_in _ = false

abbrev pub bool_mark : Value → ℕ
bool_mark (value.Bool b) = 0
bool_mark _ = 1

abbrev pub int_in : Value → ℤ
int_in (value.Int n) = n
int_in _ = pos 0

abbrev pub int_mark : Value → ℕ
int_mark (value.Int n) = 0
int_mark _ = 1

abbrev pub text_in : Value → TextRow
text_in (value.Text t) = text_row 0 t
text_in _ = text_row 1 []
