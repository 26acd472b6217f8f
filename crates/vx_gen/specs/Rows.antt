-- The rows of the two values nodes.
use Rattle.std.specs.Prelude.{ℕ, ◌+◌, ◌*◌, ◌%◌, pos, ◌-ℤ◌, List, [], ◌∷◌, ◌++◌, map, codes, decimal}
use Rattle.std.specs.List.{range_with_len}
use Rattle.vx_value.specs.declared.value.Value.{Value}
use Rattle.vx_value.specs.declared.value.Value.TheVariants.{Int, Text}
use Rattle.vx_gen.specs.Draws.{next_state, drawn, draw}

-- a place, a group from 0 to 499 and an amount from -500 to 500
abbrev pub row_of : ℕ → ℕ → ℕ → List Value
row_of i a b = Int (pos i) ∷ Int (pos (a % 500)) ∷ Int (pos (b % 1001) -ℤ pos 500) ∷ []

-- the row at a place has two draws of its own, in this order
abbrev pub row_at : ℕ → ℕ → List Value
row_at number i = row_of i (draw number (2 * i)) (draw number (2 * i + 1))

-- so many rows, drawn from a number
unfoldable pub drawn_rows : ℕ → ℕ → List (List Value)
drawn_rows number count = map (row_at number) (range_with_len 0 count)

-- a group's number and its name
abbrev pub group_row : ℕ → List Value
group_row j = Int (pos j) ∷ Text (codes "group-" ++ decimal j) ∷ []

-- so many groups, numbered from 0
unfoldable pub group_rows : ℕ → List (List Value)
group_rows count = map group_row (range_with_len 0 count)

-- ---- the same, draw by draw

-- the row of the two draws after a state
abbrev pub row_from : ℕ → ℕ → List Value
row_from state i = row_of i (drawn (next_state state)) (drawn (next_state (next_state state)))
