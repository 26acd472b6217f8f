-- How far a query is from its end, by what its machine holds.
use Rattle.std.specs.Prelude.{ℕ, zero, suc, ◌+◌, Bool, true, false, List, [], ◌∷◌, ◌++◌, length}
use Rattle.vx_plan.specs.Tree.{Tree}
use Rattle.vx_rest.specs.Rank.{Places, rank}
use Rattle.vx_rest.specs.Machine.{Machine}
use Rattle.vx_rest.specs.Changes.{size}

-- over the first so many drivers
abbrev pub total : ℕ → (ℕ → ℕ) → ℕ
total zero f = 0
total (suc n) f = f zero + total n (λ d. f (suc d))

-- a phase that wasn't left
abbrev pub unless : Bool → ℕ
unless true = 0
unless false = 1

-- the five numbers of a node
abbrev pub places : ℕ → Machine → ℕ → Places
places drivers m id = record {
  moves = total drivers (λ d. size (m.query.held id d)) + m.weight id;
  owed = length (m.query.join id).owed;
  kept = total drivers (m.kept id);
  runs = total drivers (m.runs id);
  pending =
      total drivers (λ d. length (m.query.hand id d)) + (total drivers (λ d. unless (m.ends.input id d)) + (total drivers (λ d. unless (m.ends.build id d)) + (unless (m.through id) + m.inside id)));
}

-- and at last whether the output's driver has ended
abbrev pub rank_of : ℕ → Tree → Machine → List ℕ
rank_of drivers t m = rank (places drivers m) t ++ (unless m.done ∷ [])
