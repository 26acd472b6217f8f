-- A column: values of one kind.
use Rattle.std.specs.Prelude.{◌≡◌, ℕ, Bool, if◌then◌else◌, List, [], ◌∷◌, Option, Some, None, ⊤}
use Rattle.vx_value.specs.declared.value.Kind.{Kind}
use Rattle.vx_value.specs.declared.value.Value.{Value}
use Rattle.vx_value.specs.declared.value.Value.TheVariants.{Null, Text}
use Rattle.vx_value.specs.Value.{kind_of}
use Rattle.vx_value.specs.Row.{value_at}

pub record Column : Type 0 where
  pub kind : Kind
  pub values : List Value

abbrev pub column : Kind → List Value → Column
column kind values = record { kind = kind; values = values }

-- no kind, or this one
abbrev pub IsNoneOr : Kind → Option Kind → Type 0
IsNoneOr wanted None = ⊤
IsNoneOr wanted (Some k) = k ≡ wanted

-- a value of this kind, or null
abbrev pub FitsKind : Kind → Value → Type 0
FitsKind wanted value = IsNoneOr wanted (kind_of value)

-- it is not a text
abbrev pub IsNoText : Value → Type 0
IsNoText (Text t) = ⊥
IsNoText _ = ⊤

-- at each row the value at its index, and null where the mask says so
abbrev pub wrapped : List Value → List ℕ → List Bool → List Value
wrapped values (at ∷ indices) (null ∷ nulls) = (if null then Null else value_at values at) ∷ wrapped values indices nulls
wrapped values _ _ = []

-- the value at a place, and null where there is none
abbrev pub value_or_null : List Value → Option ℕ → Value
value_or_null values None = Null
value_or_null values (Some place) = value_at values place
