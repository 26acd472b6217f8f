-- Places in a list, or none.
use Rattle.std.specs.Prelude.{ℕ, ◌<◌, Bool, true, false, List, get_or, Option, Some, None, ⊤}

-- the place is one of so many
abbrev pub IsIn : ℕ → Option ℕ → Type 0
IsIn count None = ⊤
IsIn count (Some place) = place < count

-- the item at a place, and another one where there is no place
abbrev pub item_or : {T : Type 0} → List T → T → Option ℕ → T
item_or items other None = other
item_or items other (Some place) = get_or items place other

-- no place where a mask says so
abbrev pub unless : Bool → ℕ → Option ℕ
unless true place = None
unless false place = Some place

-- the place that stands at a place, and none where a mask says so
abbrev pub through : List (Option ℕ) → Bool → ℕ → Option ℕ
through index true place = None
through index false place = get_or index place None
