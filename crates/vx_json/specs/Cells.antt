-- Kinds and rows of a values node.
use Rattle.std.specs.Prelude.{ℕ, if◌then◌else◌, nat_le, List, [], length, get_or, Option, Some, None, option_map, Result}
use Rattle.serde_json.specs.Data.{Data, null, boolean, number, string, array, object}
use Rattle.serde_json.specs.Find.{as_i64}
use Rattle.vx_value.specs.declared.value.Kind.{Kind}
use Rattle.vx_value.specs.declared.value.Kind.TheVariants as kind
use Rattle.vx_value.specs.declared.value.Value.{Value}
use Rattle.vx_value.specs.declared.value.Value.TheVariants as value
use Rattle.vx_json.specs.declared.lists.Count.TheVariants.{Any, Exactly}
use Rattle.vx_json.specs.Place.{Said}
use Rattle.vx_json.specs.Lists.{or_misfit, list_at}
use Rattle.vx_json.specs.Words.{word_at, kinds}

-- A text; one of more than 65,535 bytes is left out here, and the limit of texts refuses it.
abbrev pub kept : List ℕ → List ℕ
kept text = if nat_le (length text) 65535 then text else []

-- null in a column of any kind, true or false for bool, a whole number within 64 bits for int, a string for text
abbrev pub cell_of : Kind → Data → Option Value
cell_of k null = Some value.Null
cell_of kind.Bool (boolean b) = Some (value.Bool b)
cell_of kind.Int (number n) = option_map value.Int (as_i64 n)
cell_of kind.Text (string s) = Some (value.Text (kept s))
cell_of k (boolean b) = None
cell_of k (number n) = None
cell_of k (string s) = None
cell_of k (array ds) = None
cell_of k (object ms) = None

-- the kind of a column that is known to be there
abbrev pub kind_of : List Kind → ℕ → Kind
kind_of ks i = get_or ks i kind.Int

abbrev pub cell_at : List Kind → ℕ → List ℕ → Data → Result Value Said
cell_at ks i path d = or_misfit path (cell_of (kind_of ks i) d)

-- a row has a cell for each kind
abbrev pub row_at : List Kind → List ℕ → Data → Result (List Value) Said
row_at ks path d = list_at (Exactly (length ks)) (cell_at ks) path d

abbrev pub rows_at : List Kind → List ℕ → Data → Result (List (List Value)) Said
rows_at ks path d = list_at Any (λ _. row_at ks) path d

abbrev pub kinds_at : List ℕ → Data → Result (List Kind) Said
kinds_at path d = list_at Any (λ _. word_at kinds) path d
