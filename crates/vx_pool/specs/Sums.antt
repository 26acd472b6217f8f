-- How a `Tree` keeps its sums. No public clause cites this module.
use Rattle.std.specs.Prelude.{◌≡◌, ◌≢◌, ℕ, ◌+◌, ◌<◌, List, length, slice_index, true, false}
use Rattle.vx_pool.specs.Pools.{Pools, IsTree, has_child, children_sum, leaf_reserves}

-- the sum of a node's children
abbrev pub sum_below : List ℕ → List ℕ → ℕ → ℕ
sum_below parents sums node = children_sum (λ child. slice_index sums child) node 1 parents

-- there is a sum for each node, and that of a node with children is theirs together
pub record AddsUp (parents sums : List ℕ) : Type 0 where
  pub size : length sums ≡ length parents + 1
  pub inner : (node : ℕ) → node < length sums → has_child parents node ≡ true
      → slice_index sums node ≡ sum_below parents sums node

-- the sums after a leaf's has become `amount`: they add up, and no other leaf's has changed
pub record Moves (parents old new : List ℕ) (leaf amount : ℕ) : Type 0 where
  pub adds_up : AddsUp parents new
  pub changed : slice_index new leaf ≡ amount
  pub others : (node : ℕ) → node ≢ leaf → has_child parents node ≡ false
      → slice_index new node ≡ slice_index old node
  pub root : slice_index new 0 + slice_index old leaf ≡ slice_index old 0 + amount

-- these sums are what the nodes of the tree have reserved
pub record HasSums (own : ℕ → ℕ) (parents sums : List ℕ) : Type 0 where
  pub adds_up : AddsUp parents sums
  pub leaves : (node : ℕ) → node < length sums → has_child parents node ≡ false
      → slice_index sums node ≡ own node

-- a tree that follows the rule, and its sums
pub record IsKept (pools : Pools) (amounts : List ℕ) : Type 0 where
  pub tree : IsTree pools
  pub sums : HasSums (leaf_reserves pools) pools.parents amounts
