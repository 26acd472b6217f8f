-- How a list in a plan file is read: its own length first, then its items in order.
use Rattle.std.specs.Prelude.{ℕ, ◌+◌, ◌==◌, ◌||◌, nat_le, Bool, true, if◌then◌else◌, List, [], ◌∷◌, length, get_or, Option, Some, None, option_map, Result, Ok}
use Rattle.serde_json.specs.Data.{Data, null, Items, no_items, item}
use Rattle.serde_json.specs.Find.{as_array}
use Rattle.vx_json.specs.declared.lists.Count.{Count}
use Rattle.vx_json.specs.declared.lists.Count.TheVariants.{Any, NotEmpty, OneOrTwo, Exactly}
use Rattle.vx_json.specs.Place.{Said, at_item, misfit, and_then}

-- the thing, and else a misfit at this path
abbrev pub or_misfit : {T : Type 0} → List ℕ → Option T → Result T Said
or_misfit path (Some thing) = Ok thing
or_misfit path None = misfit path

-- so many items are lawful
abbrev pub is_lawful : Count → ℕ → Bool
is_lawful Any n = true
is_lawful NotEmpty n = nat_le 1 n
is_lawful OneOrTwo n = n == 1 || n == 2
is_lawful (Exactly count) n = n == count

-- the items of an array, as a list
abbrev pub list_of : Items → List Data
list_of no_items = []
list_of (item d ds) = d ∷ list_of ds

abbrev pub as_list : Data → Option (List Data)
as_list d = option_map list_of (as_array d)

-- a list of a lawful length
abbrev pub sized : Count → List ℕ → List Data → Result (List Data) Said
sized count path ds = if is_lawful count (length ds) then Ok ds else misfit path

-- the items of a list of a lawful length
abbrev pub items_at : Count → List ℕ → Data → Result (List Data) Said
items_at count path d = and_then (or_misfit path (as_list d)) (sized count path)

-- an item that is known to be there
abbrev pub item_of : List Data → ℕ → Data
item_of ds i = get_or ds i null

-- what is read of each item, the first of which has the index i; the first refusal stands
abbrev pub each_from : {A T : Type 0} → (ℕ → List ℕ → A → Result T Said) → List ℕ → ℕ → List A → Result (List T) Said
each_from reads path i [] = Ok []
each_from reads path i (x ∷ xs) = and_then (reads i (at_item path i) x) (λ y. and_then (each_from reads path (i + 1) xs) (λ ys. Ok (y ∷ ys)))

-- what is read of each item of a list of a lawful length
abbrev pub list_at : {T : Type 0} → Count → (ℕ → List ℕ → Data → Result T Said) → List ℕ → Data → Result (List T) Said
list_at count reads path d = and_then (items_at count path d) (each_from reads path 0)
