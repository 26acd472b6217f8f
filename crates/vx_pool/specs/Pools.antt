-- The pool tree: what each leaf uses and has ahead, and what each node has reserved.
use Rattle.std.specs.Prelude.{◌≡◌, ℕ, zero, suc, ◌+◌, ◌-◌, ◌^◌, ◌<◌, ◌≤◌, ◌==◌, max, Bool, false, if◌then◌else◌, List, [], ◌∷◌, length, replicate, slice_index, slice_set}
use Rattle.std.specs.List.{list_any}
use Rattle.vx_pool.specs.Quantum.{quantum, IsUnit}
use Rattle.vx_pool.specs.declared.pools.Short.{Short}

-- A pool tree. Node 0 is the root, and entry i of `parents` is the parent of node i + 1. `used` and
-- `ahead` have an entry for each node, which counts at the leaves alone.
pub record Pools : Type 0 where
  pub unit : ℕ
  pub parents : List ℕ
  pub used : List ℕ
  pub ahead : List ℕ
  pub capacity : ℕ
  pub peak : ℕ

abbrev pub node_count : Pools → ℕ
node_count pools = length pools.parents + 1

-- every parent's number is below its child's
abbrev pub IsShape : List ℕ → Type 0
IsShape parents = (i : ℕ) → i < length parents → slice_index parents i ≤ i

abbrev pub has_child : List ℕ → ℕ → Bool
has_child parents node = list_any (λ parent. parent == node) parents

-- the number of a node without children
pub record IsLeaf (parents : List ℕ) (node : ℕ) : Type 0 where
  pub there : node ≤ length parents
  pub childless : has_child parents node ≡ false

abbrev pub used_of : Pools → ℕ → ℕ
used_of pools leaf = slice_index pools.used leaf

abbrev pub ahead_of : Pools → ℕ → ℕ
ahead_of pools leaf = slice_index pools.ahead leaf

-- what a leaf has reserved
abbrev pub leaf_reserves : Pools → ℕ → ℕ
leaf_reserves pools leaf = quantum pools.unit (max (used_of pools leaf) (ahead_of pools leaf))

-- what the children of a node have together, where the list has the parents of the nodes from
-- `first` on
abbrev pub children_sum : (ℕ → ℕ) → ℕ → ℕ → List ℕ → ℕ
children_sum amount node first [] = 0
children_sum amount node first (parent ∷ rest) =
    (if parent == node then amount first else 0) + children_sum amount node (suc first) rest

-- what a node has where a leaf has what `own` says and any other node what its children have
-- together, in a tree that goes down by less than `depth`
abbrev pub added_up : (ℕ → ℕ) → List ℕ → ℕ → ℕ → ℕ
added_up own parents zero node = 0
added_up own parents (suc depth) node =
    if has_child parents node then children_sum (added_up own parents depth) node 1 parents
    else own node

-- what a node has reserved
abbrev pub reserved_of : Pools → ℕ → ℕ
reserved_of pools node = added_up (leaf_reserves pools) pools.parents (node_count pools) node

-- the capacity that is not reserved
abbrev pub unused_of : Pools → ℕ
unused_of pools = pools.capacity - reserved_of pools 0

-- The rule of the pool tree. The root never has more reserved than the capacity, and never had more
-- than the peak.
pub record IsTree (pools : Pools) : Type 0 where
  pub unit : IsUnit pools.unit
  pub shape : IsShape pools.parents
  pub used : length pools.used ≡ node_count pools
  pub ahead : length pools.ahead ≡ node_count pools
  pub bounded : pools.capacity ≤ 2 ^ 33
  pub within : reserved_of pools 0 ≤ pools.capacity
  pub highest : reserved_of pools 0 ≤ pools.peak

-- a tree with this shape in which nothing is used, ahead or reserved, and which has no capacity
abbrev pub empty_tree : ℕ → List ℕ → Pools
empty_tree unit parents = record {
  unit = unit;
  parents = parents;
  used = replicate (length parents + 1) 0;
  ahead = replicate (length parents + 1) 0;
  capacity = 0;
  peak = 0;
}

abbrev pub with_used : Pools → ℕ → ℕ → Pools
with_used pools leaf bytes = record pools { used = slice_set pools.used leaf bytes }

abbrev pub with_ahead : Pools → ℕ → ℕ → Pools
with_ahead pools leaf bytes = record pools { ahead = slice_set pools.ahead leaf bytes }

-- no node has more or less reserved than before
abbrev pub KeepsReserved : Pools → Pools → Type 0
KeepsReserved old new =
    (node : ℕ) → node < node_count old → reserved_of new node ≡ reserved_of old node

-- what the root would have reserved with so much ahead at a leaf
abbrev pub would_reserve : Pools → ℕ → ℕ → ℕ
would_reserve pools leaf bytes = reserved_of (with_ahead pools leaf bytes) 0

-- the tree with so much ahead at a leaf, and the peak that the root has had by then
abbrev pub after_ahead : Pools → ℕ → ℕ → Pools
after_ahead pools leaf bytes =
    record (with_ahead pools leaf bytes) { peak = max pools.peak (would_reserve pools leaf bytes) }

-- the three numbers that show why there is no room for so much ahead
pub record Explains (pools : Pools) (leaf bytes : ℕ) (short : Short) : Type 0 where
  pub capacity : short.capacity ≡ pools.capacity
  pub reserved : short.reserved ≡ reserved_of pools 0
  pub would : short.would ≡ would_reserve pools leaf bytes
