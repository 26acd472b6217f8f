-- What a pool tree's definitions say, for callers: the equations by which amounts add up, and what a
-- change at one leaf does to the root.
use Rattle.std.proofs.Common.{◌≡◌, ◌≢◌, ℕ, zero, suc, ◌+◌, ◌<◌, ◌≤◌, true, false, List, [], ◌∷◌, length, get_or, sym, ap, ◌∙◌, arith, get_or-set_other, max, inl, inr, refl}
use Rattle.std.proofs.lemmas.Bool.Decides.{nat_tests}
use Rattle.vx_pool.specs.Quantum.{quantum}
use Rattle.vx_pool.specs.Pools.{Pools, IsShape, IsLeaf, IsTree, has_child, children_sum, added_up, used_of, ahead_of, leaf_reserves, reserved_of, with_used, with_ahead}
use Rattle.vx_pool.specs.Sums.{HasSums}
use Rattle.std.proofs.lemmas.Bool.{cases_Bool}
use Rattle.vx_pool.proofs.QuantumLemmas.{quantum_none, quantum_enough}
use Rattle.vx_pool.proofs.SumLemmas.{children_sum_same, children_sum_none, within_root, added_up_is, has_moved}
use Rattle.vx_pool.proofs.Walks.{moves_there}

-- a node whose number is above each parent's is a leaf
has_child_above : (parents : List ℕ) (node : ℕ) → ((i : ℕ) → i < length parents → get_or parents i 0 < node) → has_child parents node ≡ false
has_child_above [] node above = refl
has_child_above (parent ∷ rest) node above =
    let first : parent < node = above 0 (omega arith) in
    let later : has_child rest node ≡ false =
    has_child_above rest node (λ i lt. above (suc i) (omega arith)) in
    grind (arith, nat_tests, first, later)

pub IsLeaf-above : (parents : List ℕ) (node : ℕ) → node ≤ length parents → ((i : ℕ) → i < length parents → get_or parents i 0 < node) → IsLeaf parents node
IsLeaf-above parents node there above =
    record { there = there; childless = has_child_above parents node above }

module _ (own : ℕ → ℕ) (parents : List ℕ) (shape : IsShape parents) where
  -- a leaf has what it has of its own
  added_up-leaf : (node : ℕ) → has_child parents node ≡ false → added_up own parents (length parents + 1) node ≡ own node
  added_up-leaf node childless =
      let count : length parents + 1 ≡ suc (length parents) = omega arith in rw (count, childless) refl

  -- how far an amount is added up makes no difference, once it is far enough
  added_up_deep : (depth more node : ℕ) → length parents < node + depth → length parents < node + more → node ≤ length parents → added_up own parents depth node ≡ added_up own parents more node
  added_up_deep zero more node deep far there = absurd (omega arith)
  added_up_deep (suc depth) zero node deep far there = absurd (omega arith)
  added_up_deep (suc depth) (suc more) node deep far there =
      let below : children_sum (added_up own parents depth) node 1 parents ≡ children_sum (added_up own parents more) node 1 parents =
      children_sum_same (added_up own parents depth) (added_up own parents more) node 1 parents
      (λ i lt is.
      let above : get_or parents i 0 ≤ i = shape i lt in
      added_up_deep depth more (1 + i) (omega arith) (omega arith) (omega arith)) in
      rw below refl

  -- any other node has what its children have together
  added_up-node : (node : ℕ) → node ≤ length parents → has_child parents node ≡ true → added_up own parents (length parents + 1) node ≡ children_sum (added_up own parents (length parents + 1)) node 1 parents
  added_up-node node there child =
      let count : length parents + 1 ≡ suc (length parents) = omega arith in
      let below : children_sum (added_up own parents (length parents)) node 1 parents ≡ children_sum (added_up own parents (length parents + 1)) node 1 parents =
      children_sum_same (added_up own parents (length parents)) (added_up own parents (length parents + 1)) node 1 parents
      (λ i lt is. added_up_deep (length parents) (length parents + 1) (1 + i) (omega arith) (omega arith) (omega arith)) in
      let open_once : added_up own parents (suc (length parents)) node ≡ children_sum (added_up own parents (length parents)) node 1 parents =
      rw child refl in
      ap (λ (depth : ℕ). added_up own parents depth node) count ∙ open_once ∙ below

pub reserved_of-leaf : (pools : Pools) (leaf : ℕ) → IsTree pools → IsLeaf pools.parents leaf → reserved_of pools leaf ≡ leaf_reserves pools leaf
reserved_of-leaf pools leaf tree is_leaf =
    added_up-leaf (leaf_reserves pools) pools.parents tree.shape leaf is_leaf.childless

pub reserved_of-node : (pools : Pools) (node : ℕ) → IsTree pools → node ≤ length pools.parents → has_child pools.parents node ≡ true → reserved_of pools node ≡ children_sum (reserved_of pools) node 1 pools.parents
reserved_of-node pools node tree there child =
    added_up-node (leaf_reserves pools) pools.parents tree.shape node there child

-- the amounts of `count` nodes from `first` on
listed : (ℕ → ℕ) → ℕ → ℕ → List ℕ
listed amount first zero = []
listed amount first (suc count) = amount first ∷ listed amount (suc first) count

length-listed : (amount : ℕ → ℕ) (first count : ℕ) → length (listed amount first count) ≡ count
unfolding listed
length-listed amount first zero = refl
length-listed amount first (suc count) =
    let later : length (listed amount (suc first) count) ≡ count = length-listed amount (suc first) count in
    omega (arith, later)

get_or-listed : (amount : ℕ → ℕ) (first count i : ℕ) → i < count → get_or (listed amount first count) i 0 ≡ amount (first + i)
unfolding listed
get_or-listed amount first zero i lt = absurd (omega arith)
get_or-listed amount first (suc count) zero lt =
    let start : first ≡ first + 0 = omega arith in ap amount start
get_or-listed amount first (suc count) (suc i) lt =
    let moved : suc first + i ≡ first + suc i = omega arith in
    get_or-listed amount (suc first) count i (omega arith) ∙ ap amount moved

-- any amounts of the leaves have sums
sums_there : (own : ℕ → ℕ) (parents : List ℕ) → IsShape parents → (sums : List ℕ) × HasSums own parents sums
sums_there own parents shape =
    let amount : ℕ → ℕ = added_up own parents (length parents + 1) in
    let size : length (listed amount 0 (length parents + 1)) ≡ length parents + 1 =
    length-listed amount 0 (length parents + 1) in
    let read : (node : ℕ) → node < length parents + 1 → get_or (listed amount 0 (length parents + 1)) node 0 ≡ amount node =
    λ node lt.
    let start : 0 + node ≡ node = omega arith in
    get_or-listed amount 0 (length parents + 1) node lt ∙ ap amount start in (
      listed amount 0 (length parents + 1),
      record {
        adds_up = record {
          size = size;
          inner = (λ node lt child.
              read node (omega (arith, size)) ∙ added_up-node own parents shape node (omega (arith, size)) child
              ∙ children_sum_same amount (λ k. get_or (listed amount 0 (length parents + 1)) k 0) node 1 parents
              (λ i inside is. sym (read (1 + i) (omega arith))));
        };
        leaves = (λ node lt childless. read node (omega (arith, size)) ∙ added_up-leaf own parents shape node childless);
      },
    )

-- where one leaf's amount changes, the root's changes by as much
root_moves : (own next : ℕ → ℕ) (parents : List ℕ) (leaf : ℕ) → IsShape parents → IsLeaf parents leaf → ((node : ℕ) → node ≢ leaf → next node ≡ own node) → added_up next parents (length parents + 1) 0 + own leaf ≡ added_up own parents (length parents + 1) 0 + next leaf
root_moves own next parents leaf shape is_leaf others =
    let found = sums_there own parents shape in
    let sums : List ℕ = found.0 in
    let has : HasSums own parents sums = found.1 in
    let size : length sums ≡ length parents + 1 = has.adds_up.size in
    let there : leaf ≤ length parents = is_leaf.there in
    let moved = moves_there parents sums leaf (next leaf) shape is_leaf has.adds_up in
    let new_has : HasSums next parents moved.0 =
    has_moved own next parents sums moved.0 leaf (next leaf) has moved.1 refl others in
    let new_size : length moved.0 ≡ length parents + 1 = new_has.adds_up.size in
    let before : added_up own parents (length parents + 1) 0 ≡ get_or sums 0 0 =
    added_up_is own parents sums 0 shape has (omega arith) in
    let after : added_up next parents (length parents + 1) 0 ≡ get_or moved.0 0 0 =
    added_up_is next parents moved.0 0 shape new_has (omega arith) in
    let here : get_or sums leaf 0 ≡ own leaf = has.leaves leaf (omega arith) is_leaf.childless in
    let root : get_or moved.0 0 0 + get_or sums leaf 0 ≡ get_or sums 0 0 + next leaf = moved.1.root in
    omega (arith, before, after, here, root)

-- the root's reserved amount changes by as much as the leaf's, where it uses more or less
pub root_reserves-with_used : (pools : Pools) (leaf bytes : ℕ) → IsTree pools → IsLeaf pools.parents leaf → reserved_of (with_used pools leaf bytes) 0 + leaf_reserves pools leaf ≡ reserved_of pools 0 + leaf_reserves (with_used pools leaf bytes) leaf
root_reserves-with_used pools leaf bytes tree is_leaf =
    root_moves (leaf_reserves pools) (leaf_reserves (with_used pools leaf bytes)) pools.parents leaf tree.shape is_leaf
    (λ node ne. ap (λ n. quantum pools.unit (max n (ahead_of pools node))) (get_or-set_other pools.used leaf node bytes 0 ne))

-- and where it has more or less ahead
pub root_reserves-with_ahead : (pools : Pools) (leaf bytes : ℕ) → IsTree pools → IsLeaf pools.parents leaf → reserved_of (with_ahead pools leaf bytes) 0 + leaf_reserves pools leaf ≡ reserved_of pools 0 + leaf_reserves (with_ahead pools leaf bytes) leaf
root_reserves-with_ahead pools leaf bytes tree is_leaf =
    root_moves (leaf_reserves pools) (leaf_reserves (with_ahead pools leaf bytes)) pools.parents leaf tree.shape is_leaf
    (λ node ne. ap (λ n. quantum pools.unit (max (used_of pools node) n)) (get_or-set_other pools.ahead leaf node bytes 0 ne))

-- no node has more reserved than the root
pub reserved_of-within_root : (pools : Pools) (node : ℕ) → IsTree pools → node ≤ length pools.parents → reserved_of pools node ≤ reserved_of pools 0
reserved_of-within_root pools node tree there =
    let found = sums_there (leaf_reserves pools) pools.parents tree.shape in
    let has : HasSums (leaf_reserves pools) pools.parents found.0 = found.1 in
    let size : length found.0 ≡ length pools.parents + 1 = has.adds_up.size in
    let root : reserved_of pools 0 ≡ get_or found.0 0 0 =
    added_up_is (leaf_reserves pools) pools.parents found.0 0 tree.shape has (omega arith) in
    let here : reserved_of pools node ≡ get_or found.0 node 0 =
    added_up_is (leaf_reserves pools) pools.parents found.0 node tree.shape has (omega arith) in
    let most : get_or found.0 node 0 ≤ get_or found.0 0 0 =
    within_root pools.parents found.0 node tree.shape has.adds_up (omega arith) in
    omega (arith, root, here, most)

-- what a leaf uses is within what it has reserved, and so within the capacity
pub used_of-within_reserved : (pools : Pools) (leaf : ℕ) → IsTree pools → IsLeaf pools.parents leaf → used_of pools leaf ≤ reserved_of pools leaf
used_of-within_reserved pools leaf tree is_leaf =
    let low : 4096 ≤ pools.unit = tree.unit.low in
    let enough : max (used_of pools leaf) (ahead_of pools leaf) ≤ leaf_reserves pools leaf =
    quantum_enough pools.unit (omega arith) (max (used_of pools leaf) (ahead_of pools leaf)) in
    let is : reserved_of pools leaf ≡ leaf_reserves pools leaf = reserved_of-leaf pools leaf tree is_leaf in
    omega (arith, enough, is)

pub used_of-within_capacity : (pools : Pools) (leaf : ℕ) → IsTree pools → IsLeaf pools.parents leaf → used_of pools leaf ≤ pools.capacity
used_of-within_capacity pools leaf tree is_leaf =
    let reserved : used_of pools leaf ≤ reserved_of pools leaf = used_of-within_reserved pools leaf tree is_leaf in
    let root : reserved_of pools leaf ≤ reserved_of pools 0 = reserved_of-within_root pools leaf tree is_leaf.there in
    let within : reserved_of pools 0 ≤ pools.capacity = tree.within in
    omega (arith, reserved, root, within)

-- where no leaf has anything, no node has
added_up_none : (own : ℕ → ℕ) (parents : List ℕ) (depth node : ℕ) → ((leaf : ℕ) → leaf ≤ length parents → has_child parents leaf ≡ false → own leaf ≡ 0) → node ≤ length parents → added_up own parents depth node ≡ 0
added_up_none own parents zero node none there = refl
added_up_none own parents (suc depth) node none there =
    let below : children_sum (added_up own parents depth) node 1 parents ≡ 0 =
    children_sum_same (added_up own parents depth) (λ _. 0) node 1 parents
    (λ i lt is. added_up_none own parents depth (1 + i) none (omega arith))
    ∙ children_sum_none (λ _. 0) node 1 parents (λ _. refl) in
    elim (cases_Bool (has_child parents node)) [
      | inl child ↦ rw child below
      | inr childless ↦ rw childless (none node there childless)
    ]

pub reserved_of-none : (pools : Pools) (node : ℕ) → IsTree pools → ((leaf : ℕ) → IsLeaf pools.parents leaf → used_of pools leaf ≡ 0) → ((leaf : ℕ) → IsLeaf pools.parents leaf → ahead_of pools leaf ≡ 0) → node ≤ length pools.parents → reserved_of pools node ≡ 0
reserved_of-none pools node tree unused nothing_ahead there =
    added_up_none (leaf_reserves pools) pools.parents (length pools.parents + 1) node
    (λ leaf inside childless.
    let is_leaf : IsLeaf pools.parents leaf = record { there = inside; childless = childless } in
    let used : used_of pools leaf ≡ 0 = unused leaf is_leaf in
    let ahead : ahead_of pools leaf ≡ 0 = nothing_ahead leaf is_leaf in
    let low : 4096 ≤ pools.unit = tree.unit.low in
    let none : max (used_of pools leaf) (ahead_of pools leaf) ≡ 0 = omega (arith, used, ahead) in
    ap (λ n. quantum pools.unit n) none ∙ quantum_none pools.unit (omega arith))
    there
