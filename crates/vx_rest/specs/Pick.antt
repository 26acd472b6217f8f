-- Which move a step makes.
use Rattle.std.specs.Prelude.{◌≡◌, ◌⊎◌, ℕ, zero, suc, ◌<◌, List, [], ◌∷◌, ◌++◌}
use Rattle.vx_plan.specs.Tree.{Tree, values, over, join, Own, exchange}
use Rattle.vx_rest.specs.Lists.{drivers_of}
use Rattle.vx_rest.specs.Machine.{Machine, JoinNode, join_node, Move, reads, gives, answers, leaves, takes, builds, probes, comes_out, turns, merges, finishes, built, probed, empties, stops, CanMake}

-- a driver's moves from a node down to its source, the nearest to the end first
abbrev pub join_moves : JoinNode → List Move
join_moves j = answers j ∷ leaves j ∷ probes j ∷ probed j ∷ turns j ∷ empties j ∷ []

-- the moves of a driver, from a node down to the start of its pipeline
abbrev pub line_from : Tree → ℕ → List Move
line_from (values id kinds all parallel) driver = reads id kinds all parallel driver ∷ []
line_from (over id (exchange kind keys) source) driver = gives id (exchange kind keys) source driver ∷ []
line_from (over id own source) driver =
    gives id own source driver ∷ merges id own source driver ∷ takes id own source driver ∷ finishes id own source driver ∷ line_from source driver
line_from (join id kind left_keys right_keys left right) driver =
    join_moves (record { id = id; kind = kind; left_keys = left_keys; right_keys = right_keys; left = left; right = right }) ++ line_from left driver

-- a function's first values
abbrev pub tabulated : {X : Type 0} → ℕ → (ℕ → X) → List X
tabulated zero f = []
tabulated (suc n) f = f zero ∷ tabulated n (λ d. f (suc d))

-- The drivers below a node, in the order of their pipelines, each with its moves. A build's pipeline comes after those of
-- both sources of its join.
abbrev pub lines : ℕ → Tree → List (List Move)
lines drivers (values id kinds all parallel) = []
lines drivers (over id (exchange kind keys) source) =
    lines drivers source ++ tabulated (drivers_of drivers source) (λ d. takes id (exchange kind keys) source d ∷ finishes id (exchange kind keys) source d ∷ line_from source d)
lines drivers (over id own source) = lines drivers source
lines drivers (join id kind left_keys right_keys left right) =
    let j : JoinNode = record { id = id; kind = kind; left_keys = left_keys; right_keys = right_keys; left = left; right = right } in
    lines drivers right ++ (lines drivers left ++ tabulated (drivers_of drivers right) (λ d. builds j d ∷ built j d ∷ line_from right d))

-- those and the driver of the output, which comes last
abbrev pub all_lines : ℕ → Tree → List (List Move)
all_lines drivers t = lines drivers t ++ ((comes_out ∷ stops ∷ line_from t 0) ∷ [])

-- the first of a list that can be made
abbrev pub IsAmong : {X : Type 0} → X → List X → Type 0
IsAmong x [] = ⊥
IsAmong x (y ∷ ys) = (x ≡ y) ⊎ IsAmong x ys

-- it is the first of a list that can be made
abbrev pub IsFirst : (Move → Type 0) → Move → List Move → Type 0
IsFirst Can move [] = ⊥
IsFirst Can move (m ∷ more) = (m ≡ move) × Can move ⊎ (Can m → ⊥) × IsFirst Can move more

-- some move of the line can be made
abbrev pub IsRunnable : ℕ → Tree → Machine → List Move → Type 0
IsRunnable drivers t m line = (move : Move) × IsAmong move line × CanMake drivers t m move
