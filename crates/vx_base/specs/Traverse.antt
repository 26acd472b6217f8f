-- A list of which each item has to give something.
use Rattle.std.specs.Prelude.{List, [], ◌∷◌, Option, Some, option_map, option_and_then}

-- what f gives of each item, in order, or nothing where it gives nothing of one of them
abbrev pub traverse : {A B : Type 0} → (A → Option B) → List A → Option (List B)
traverse f [] = Some []
traverse f (x ∷ xs) = option_and_then (λ y. option_map (λ ys. y ∷ ys) (traverse f xs)) (f x)
