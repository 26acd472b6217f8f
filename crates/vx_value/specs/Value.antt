-- What a value is, whether it is owned or borrowed.
use Rattle.std.specs.Prelude.{ℕ, ◌≤◌, Bool, true, false, List, length, Option, Some, None, IsUtf8, FitsSigned, ⊤}
use Rattle.std.specs.Int.{w64}
use Rattle.vx_value.specs.declared.value.Kind.{Kind}
use Rattle.vx_value.specs.declared.value.Kind.TheVariants as kind
use Rattle.vx_value.specs.declared.value.Value.{Value}
use Rattle.vx_value.specs.declared.value.Value.TheVariants as value
use Rattle.vx_value.specs.declared.value.ValueRef.{ValueRef}
use Rattle.vx_value.specs.declared.value.ValueRef.TheVariants as lent

-- the value that a borrowed value stands for
abbrev pub owned : ValueRef → Value
owned lent.Null = value.Null
owned (lent.Bool b) = value.Bool b
owned (lent.Int n) = value.Int n
owned (lent.Text t) = value.Text t.now

abbrev pub is_null : Value → Bool
is_null value.Null = true
is_null (value.Bool b) = false
is_null (value.Int n) = false
is_null (value.Text t) = false

-- null is of no kind
abbrev pub kind_of : Value → Option Kind
kind_of value.Null = None
kind_of (value.Bool b) = Some kind.Bool
kind_of (value.Int n) = Some kind.Int
kind_of (value.Text t) = Some kind.Text

-- bytes that a text may have
pub record IsText (bytes : List ℕ) : Type 0 where
  pub utf8 : IsUtf8 bytes
  pub short : length bytes ≤ 65535

-- what a value can be: an int has 64 bits, and a text is UTF-8 of at most 65,535 bytes
abbrev pub IsLawful : Value → Type 0
IsLawful value.Null = ⊤
IsLawful (value.Bool b) = ⊤
IsLawful (value.Int n) = FitsSigned w64 n
IsLawful (value.Text t) = IsText t
