-- What each change of a tree does to its sums, and that the tree goes on following the rule.
use Rattle.std.proofs.Common.{set, ◌≡◌, ◌≢◌, ℕ, ◌+◌, ◌-◌, ◌*◌, ◌^◌, ◌<◌, ◌≤◌, max, List, ◌++◌, take, length, get_or, inl, inr, refl, sym, ap, ◌∙◌, subst, arith, get_or-set_same, get_or-set_other, length-set}
use Rattle.std.specs.Prelude.{replicate}
use Rattle.std.proofs.lemmas.Bool.{cases_lt}
use Rattle.std.proofs.lemmas.Grind.{get_or_default_zero}
use Rattle.std.proofs.lemmas.List.{get_or-replicate, get_or_past, length-replicate}
use Rattle.std.proofs.Math.Seq.{take-append_seam}
use Rattle.vx_pool.specs.Quantum.{quantum, IsUnit}
use Rattle.vx_pool.specs.Pools.{Pools, IsShape, IsLeaf, used_of, ahead_of, leaf_reserves, reserved_of, would_reserve, with_used, with_ahead, empty_tree, Explains, node_count}
use Rattle.vx_pool.specs.Sums.{Moves, HasSums, IsKept}
use Rattle.vx_pool.proofs.QuantumLemmas.{quantum_none, quantum_enough, quantum_close, quantum_rises, quantum_same}
use Rattle.vx_pool.proofs.SumLemmas.{within_root, added_up_is, has_moved, children_sum_none}
use Rattle.vx_pool.proofs.Walks.{moves_there}

module _ (pools : Pools) (sums : List ℕ) (kept : IsKept pools sums) where
  pub sums_count : length sums ≡ length pools.parents + 1
  sums_count = kept.sums.adds_up.size

  -- the sums are what the nodes have reserved
  pub reserved_is : (node : ℕ) → node ≤ length pools.parents → reserved_of pools node ≡ get_or sums node 0
  reserved_is node there =
      let size = sums_count in
      added_up_is (leaf_reserves pools) pools.parents sums node kept.tree.shape kept.sums (omega (arith, size))

  -- no leaf has more than the root, and the root no more than the capacity
  pub leaf_within : (leaf : ℕ) → leaf ≤ length pools.parents → get_or sums leaf 0 ≤ get_or sums 0 0
  leaf_within leaf there =
      let size = sums_count in
      within_root pools.parents sums leaf kept.tree.shape kept.sums.adds_up (omega (arith, size))

  pub root_within : get_or sums 0 0 ≤ pools.capacity
  root_within =
      let is : reserved_of pools 0 ≡ get_or sums 0 0 = reserved_is 0 (omega arith) in
      subst (λ (n : ℕ). n ≤ pools.capacity) is kept.tree.within

  pub root_peaked : get_or sums 0 0 ≤ pools.peak
  root_peaked =
      let is : reserved_of pools 0 ≡ get_or sums 0 0 = reserved_is 0 (omega arith) in
      subst (λ (n : ℕ). n ≤ pools.peak) is kept.tree.highest

  pub leaf_is : (leaf : ℕ) → IsLeaf pools.parents leaf → get_or sums leaf 0 ≡ leaf_reserves pools leaf
  leaf_is leaf is_leaf =
      let there : leaf ≤ length pools.parents = is_leaf.there in
      let size = sums_count in
      kept.sums.leaves leaf (omega (arith, size)) is_leaf.childless

  -- the sums after a leaf's amount has changed are those of a tree in which that leaf alone changed
  pub moved : (own : ℕ → ℕ) (new : List ℕ) (leaf amount : ℕ) → Moves pools.parents sums new leaf amount → own leaf ≡ amount → ((node : ℕ) → node ≢ leaf → own node ≡ leaf_reserves pools node) → HasSums own pools.parents new
  moved own new leaf amount moves here others =
      has_moved (leaf_reserves pools) own pools.parents sums new leaf amount kept.sums moves here others

  module _ (leaf bytes : ℕ) (is_leaf : IsLeaf pools.parents leaf) where
    leaf_there : leaf < length pools.ahead
    leaf_there =
        let there : leaf ≤ length pools.parents = is_leaf.there in
        let size : length pools.ahead ≡ length pools.parents + 1 = kept.tree.ahead in
        omega arith

    leaf_there_used : leaf < length pools.used
    leaf_there_used =
        let there : leaf ≤ length pools.parents = is_leaf.there in
        let size : length pools.used ≡ length pools.parents + 1 = kept.tree.used in
        omega arith

    -- with so much ahead at a leaf
    pub moved_ahead : (new : List ℕ) → Moves pools.parents sums new leaf (quantum pools.unit (max (used_of pools leaf) bytes)) → HasSums (leaf_reserves (with_ahead pools leaf bytes)) pools.parents new
    moved_ahead new moves =
        moved (leaf_reserves (with_ahead pools leaf bytes)) new leaf _ moves
        (ap (λ n. quantum pools.unit (max (used_of pools leaf) n)) (get_or-set_same pools.ahead leaf bytes 0 leaf_there))
        (λ node ne. ap (λ n. quantum pools.unit (max (used_of pools node) n)) (get_or-set_other pools.ahead leaf node bytes 0 ne))

    -- with so much used at a leaf
    pub moved_used : (new : List ℕ) → Moves pools.parents sums new leaf (quantum pools.unit (max bytes (ahead_of pools leaf))) → HasSums (leaf_reserves (with_used pools leaf bytes)) pools.parents new
    moved_used new moves =
        moved (leaf_reserves (with_used pools leaf bytes)) new leaf _ moves
        (ap (λ n. quantum pools.unit (max n (ahead_of pools leaf))) (get_or-set_same pools.used leaf bytes 0 leaf_there_used))
        (λ node ne. ap (λ n. quantum pools.unit (max n (ahead_of pools node))) (get_or-set_other pools.used leaf node bytes 0 ne))

    -- what the root would have reserved
    pub would_is : would_reserve pools leaf bytes ≡ get_or sums 0 0 - get_or sums leaf 0 + quantum pools.unit (max (used_of pools leaf) bytes)
    would_is =
        let there : leaf ≤ length pools.parents = is_leaf.there in
        let found = moves_there pools.parents sums leaf (quantum pools.unit (max (used_of pools leaf) bytes)) kept.tree.shape is_leaf kept.sums.adds_up in
        let new : List ℕ = found.0 in
        let root : get_or new 0 0 + get_or sums leaf 0 ≡ get_or sums 0 0 + quantum pools.unit (max (used_of pools leaf) bytes) = found.1.root in
        let size : length new ≡ length pools.parents + 1 = found.1.adds_up.size in
        let is : would_reserve pools leaf bytes ≡ get_or new 0 0 =
        added_up_is (leaf_reserves (with_ahead pools leaf bytes)) pools.parents new 0 kept.tree.shape (moved_ahead new found.1) (omega arith) in
        let most : get_or sums leaf 0 ≤ get_or sums 0 0 = leaf_within leaf there in
        omega arith

    -- the tree with so much ahead follows the rule, if the root has room
    pub kept_ahead : (new : List ℕ) (peak : ℕ) → Moves pools.parents sums new leaf (quantum pools.unit (max (used_of pools leaf) bytes)) → get_or new 0 0 ≤ pools.capacity → get_or new 0 0 ≤ peak → IsKept (record (with_ahead pools leaf bytes) { peak = peak }) new
    kept_ahead new peak moves within highest =
        let has : HasSums (leaf_reserves (with_ahead pools leaf bytes)) pools.parents new = moved_ahead new moves in
        let size : length new ≡ length pools.parents + 1 = moves.adds_up.size in
        let is : reserved_of (with_ahead pools leaf bytes) 0 ≡ get_or new 0 0 =
        added_up_is (leaf_reserves (with_ahead pools leaf bytes)) pools.parents new 0 kept.tree.shape has (omega arith) in
        record {
          tree = record {
            unit = kept.tree.unit;
            shape = kept.tree.shape;
            used = kept.tree.used;
            ahead = length-set pools.ahead leaf bytes ∙ kept.tree.ahead;
            bounded = kept.tree.bounded;
            within = subst (λ (n : ℕ). n ≤ pools.capacity) (sym is) within;
            highest = subst (λ (n : ℕ). n ≤ peak) (sym is) highest;
          };
          sums = has;
        }

    kept_used_by : (new : List ℕ) → HasSums (leaf_reserves (with_used pools leaf bytes)) pools.parents new → get_or new 0 0 ≤ get_or sums 0 0 → IsKept (with_used pools leaf bytes) new
    kept_used_by new has less =
        let size : length new ≡ length pools.parents + 1 = has.adds_up.size in
        let is : reserved_of (with_used pools leaf bytes) 0 ≡ get_or new 0 0 =
        added_up_is (leaf_reserves (with_used pools leaf bytes)) pools.parents new 0 kept.tree.shape has (omega arith) in
        let within : get_or sums 0 0 ≤ pools.capacity = root_within in
        let highest : get_or sums 0 0 ≤ pools.peak = root_peaked in
        let new_within : get_or new 0 0 ≤ pools.capacity = omega arith in
        let new_highest : get_or new 0 0 ≤ pools.peak = omega arith in
        record {
          tree = record {
            unit = kept.tree.unit;
            shape = kept.tree.shape;
            used = length-set pools.used leaf bytes ∙ kept.tree.used;
            ahead = kept.tree.ahead;
            bounded = kept.tree.bounded;
            within = subst (λ (n : ℕ). n ≤ pools.capacity) (sym is) new_within;
            highest = subst (λ (n : ℕ). n ≤ pools.peak) (sym is) new_highest;
          };
          sums = has;
        }

    unit_there : 0 < pools.unit
    unit_there = let low : 4096 ≤ pools.unit = kept.tree.unit.low in omega arith

    -- a leaf that uses less
    pub kept_given : (new : List ℕ) → bytes ≤ used_of pools leaf → Moves pools.parents sums new leaf (quantum pools.unit (max bytes (ahead_of pools leaf))) → IsKept (with_used pools leaf bytes) new
    kept_given new less moves =
        let was : get_or sums leaf 0 ≡ leaf_reserves pools leaf = leaf_is leaf is_leaf in
        let falls : quantum pools.unit (max bytes (ahead_of pools leaf)) ≤ leaf_reserves pools leaf =
        quantum_rises pools.unit unit_there (max bytes (ahead_of pools leaf)) (max (used_of pools leaf) (ahead_of pools leaf)) (omega arith) in
        let root : get_or new 0 0 + get_or sums leaf 0 ≡ get_or sums 0 0 + quantum pools.unit (max bytes (ahead_of pools leaf)) = moves.root in
        kept_used_by new (moved_used new moves) (omega (arith, was, falls, root))

    -- a leaf that uses more of what it has reserved
    pub kept_taken : used_of pools leaf ≤ bytes → bytes ≤ leaf_reserves pools leaf → IsKept (with_used pools leaf bytes) sums
    kept_taken more within =
        let was : get_or sums leaf 0 ≡ leaf_reserves pools leaf = leaf_is leaf is_leaf in
        let enough : max (used_of pools leaf) (ahead_of pools leaf) ≤ leaf_reserves pools leaf =
        quantum_enough pools.unit unit_there (max (used_of pools leaf) (ahead_of pools leaf)) in
        let same : quantum pools.unit (max bytes (ahead_of pools leaf)) ≡ leaf_reserves pools leaf =
        quantum_same pools.unit unit_there (max (used_of pools leaf) (ahead_of pools leaf)) (max bytes (ahead_of pools leaf)) (omega arith) (omega arith) in
        let stays : Moves pools.parents sums sums leaf (quantum pools.unit (max bytes (ahead_of pools leaf))) =
        record {
          adds_up = kept.sums.adds_up;
          changed = was ∙ sym same;
          others = (λ _ _ _. refl);
          root = omega (arith, was, same);
        } in
        kept_used_by sums (moved_used sums stays) (omega arith)

  -- a leaf without anything ahead
  pub kept_settled : (leaf : ℕ) (new : List ℕ) → IsLeaf pools.parents leaf → Moves pools.parents sums new leaf (quantum pools.unit (used_of pools leaf)) → IsKept (with_ahead pools leaf 0) new
  kept_settled leaf new is_leaf moves =
      let none : max (used_of pools leaf) 0 ≡ used_of pools leaf = omega arith in
      let was : get_or sums leaf 0 ≡ leaf_reserves pools leaf = leaf_is leaf is_leaf in
      let there : 0 < pools.unit = (let low : 4096 ≤ pools.unit = kept.tree.unit.low in omega arith) in
      let falls : quantum pools.unit (used_of pools leaf) ≤ leaf_reserves pools leaf =
      quantum_rises pools.unit there (used_of pools leaf) (max (used_of pools leaf) (ahead_of pools leaf)) (omega arith) in
      let root : get_or new 0 0 + get_or sums leaf 0 ≡ get_or sums 0 0 + quantum pools.unit (used_of pools leaf) = moves.root in
      let within : get_or sums 0 0 ≤ pools.capacity = root_within in
      let highest : get_or sums 0 0 ≤ pools.peak = root_peaked in
      kept_ahead leaf 0 is_leaf new pools.peak
      (subst (λ (n : ℕ). Moves pools.parents sums new leaf (quantum pools.unit n)) (sym none) moves)
      (omega (arith, was, falls, root, within)) (omega (arith, was, falls, root, highest))

nothing_at : (count node : ℕ) → get_or (replicate {A = ℕ} count 0) node 0 ≡ 0
nothing_at count node =
    elim (cases_lt node count) [
      | inl inside ↦ get_or-replicate count node 0 0 inside
      | inr past ↦
          (let size : length (replicate {A = ℕ} count 0) ≡ count = length-replicate count 0 in
          get_or_past (replicate {A = ℕ} count 0) node 0 (omega (arith, size)))
    ]

-- a new tree
pub kept_empty : (unit : ℕ) (parents : List ℕ) → IsUnit unit → IsShape parents → IsKept (empty_tree unit parents) (replicate {A = ℕ} (length parents + 1) 0)
kept_empty unit parents is_unit shape =
    let count : length (replicate {A = ℕ} (length parents + 1) 0) ≡ length parents + 1 = length-replicate {A = ℕ} (length parents + 1) 0 in
    let nothing : (node : ℕ) → get_or (replicate {A = ℕ} (length parents + 1) 0) node 0 ≡ 0 =
    nothing_at (length parents + 1) in
    let none : quantum unit 0 ≡ 0 = quantum_none unit (let low : 4096 ≤ unit = is_unit.low in omega arith) in
    let has : HasSums (leaf_reserves (empty_tree unit parents)) parents (replicate {A = ℕ} (length parents + 1) 0) =
    record {
      adds_up = record {
        size = count;
        inner = (λ node _ _. nothing node ∙ sym (children_sum_none (λ child. get_or (replicate {A = ℕ} (length parents + 1) 0) child 0) node 1 parents nothing));
      };
      leaves = (λ node _ _. nothing node ∙ sym (ap (λ n. quantum unit (max n n)) (nothing node) ∙ none));
    } in
    let is : reserved_of (empty_tree unit parents) 0 ≡ 0 =
    added_up_is (leaf_reserves (empty_tree unit parents)) parents (replicate {A = ℕ} (length parents + 1) 0) 0 shape has (omega (arith, count)) ∙ nothing 0 in
    record {
      tree = record {
        unit = is_unit;
        shape = shape;
        used = count;
        ahead = count;
        bounded = omega arith;
        within = omega (arith, is);
        highest = omega (arith, is);
      };
      sums = has;
    }

-- what a vector has after its whole slice was written through
pub written_through : (size : ℕ) (new rest : List ℕ) → size ≡ length new → take size (new ++ rest) ≡ new
written_through size new rest is = rw is (take-append_seam new rest)

-- a leaf of the tree that a call began with is one of its fields
pub leaf_seen : (seen pools : Pools) (leaf : ℕ) → seen ≡ pools → IsLeaf pools.parents leaf → IsLeaf seen.parents leaf
leaf_seen seen pools leaf is is_leaf =
    subst (λ (each : Pools). IsLeaf each.parents leaf) (sym is) is_leaf

module _ (pools : Pools) (sums : List ℕ) (kept : IsKept pools sums) (leaf : ℕ) (is_leaf : IsLeaf pools.parents leaf) where
  -- what a leaf uses and has ahead is bounded by the greatest capacity
  pub leaf_bounded : max (used_of pools leaf) (ahead_of pools leaf) ≤ 2 ^ 33
  leaf_bounded =
      let low : 4096 ≤ pools.unit = kept.tree.unit.low in
      let was : get_or sums leaf 0 ≡ leaf_reserves pools leaf = leaf_is pools sums kept leaf is_leaf in
      let enough : max (used_of pools leaf) (ahead_of pools leaf) ≤ leaf_reserves pools leaf =
      quantum_enough pools.unit (omega arith) (max (used_of pools leaf) (ahead_of pools leaf)) in
      let leaf_most : get_or sums leaf 0 ≤ get_or sums 0 0 = leaf_within pools sums kept leaf is_leaf.there in
      let root_most : get_or sums 0 0 ≤ pools.capacity = root_within pools sums kept in
      let capacity : pools.capacity ≤ 2 ^ 33 = kept.tree.bounded in
      omega (arith, was, enough)

  -- so the quantum of what is asked for fits, also on top of what the root has
  pub amount_fits : (size : ℕ) → size ≤ 2 ^ 40 → get_or sums 0 0 + quantum pools.unit size < 2 ^ 64
  amount_fits size most =
      let low : 4096 ≤ pools.unit = kept.tree.unit.low in
      let high : pools.unit ≤ 1048576 = kept.tree.unit.high in
      let close : quantum pools.unit size < size + 8 * pools.unit = quantum_close pools.unit (omega arith) size in
      let root_most : get_or sums 0 0 ≤ pools.capacity = root_within pools sums kept in
      let capacity : pools.capacity ≤ 2 ^ 33 = kept.tree.bounded in
      omega (arith, close)

  -- what is read at a leaf is what it uses, and what it has ahead
  pub used_is : (bytes : ℕ) → bytes ≡ get_or pools.used leaf bytes → bytes ≡ used_of pools leaf
  used_is bytes is =
      let there : leaf ≤ length pools.parents = is_leaf.there in
      let size : length pools.used ≡ length pools.parents + 1 = kept.tree.used in
      is ∙ get_or_default_zero pools.used leaf bytes (omega arith)

  pub ahead_is : (bytes : ℕ) → bytes ≡ get_or pools.ahead leaf bytes → bytes ≡ ahead_of pools leaf
  ahead_is bytes is =
      let there : leaf ≤ length pools.parents = is_leaf.there in
      let size : length pools.ahead ≡ length pools.parents + 1 = kept.tree.ahead in
      is ∙ get_or_default_zero pools.ahead leaf bytes (omega arith)

  pub used_bounded : (bytes : ℕ) → bytes ≡ get_or pools.used leaf bytes → bytes ≤ 2 ^ 33
  used_bounded bytes is =
      let here : bytes ≡ used_of pools leaf = used_is bytes is in
      let most = leaf_bounded in
      omega (arith, here, most)

  pub ahead_bounded : (bytes : ℕ) → bytes ≡ get_or pools.ahead leaf bytes → bytes ≤ 2 ^ 33
  ahead_bounded bytes is =
      let here : bytes ≡ ahead_of pools leaf = ahead_is bytes is in
      let most = leaf_bounded in
      omega (arith, here, most)

-- what is read of the sums is what the node has reserved
pub sum_is : (pools : Pools) (sums : List ℕ) → IsKept pools sums → (node bytes : ℕ) → node ≤ length pools.parents → bytes ≡ get_or sums node bytes → bytes ≡ reserved_of pools node
sum_is pools sums kept node bytes there is =
    let size : length sums ≡ length pools.parents + 1 = sums_count pools sums kept in
    let read : get_or sums node bytes ≡ get_or sums node 0 = get_or_default_zero sums node bytes (omega arith) in
    is ∙ read ∙ sym (reserved_is pools sums kept node there)

-- what a leaf may take is within its quantum
pub take_within : (pools : Pools) (sums : List ℕ) → IsKept pools sums → (leaf used bytes : ℕ) → IsLeaf pools.parents leaf → used ≡ used_of pools leaf → used_of pools leaf + bytes ≤ reserved_of pools leaf → (used + bytes ≤ leaf_reserves pools leaf) × (used + bytes ≤ 2 ^ 33)
take_within pools sums kept leaf used bytes is_leaf is room =
    let sum : reserved_of pools leaf ≡ get_or sums leaf 0 = reserved_is pools sums kept leaf is_leaf.there in
    let was : get_or sums leaf 0 ≡ leaf_reserves pools leaf = leaf_is pools sums kept leaf is_leaf in
    let within : used + bytes ≤ get_or sums leaf 0 = omega (arith, is, sum, room) in
    let leaf_most : get_or sums leaf 0 ≤ get_or sums 0 0 = leaf_within pools sums kept leaf is_leaf.there in
    let root_most : get_or sums 0 0 ≤ pools.capacity = root_within pools sums kept in
    let capacity : pools.capacity ≤ 2 ^ 33 = kept.tree.bounded in
    (subst (λ (n : ℕ). used + bytes ≤ n) was within, omega arith)

-- What `would` reads: what the leaf uses, the sums of the root and of the leaf, and the new amount.
module _ (pools : Pools) (sums : List ℕ) (kept : IsKept pools sums) (leaf bytes used root was amount : ℕ) (is_leaf : IsLeaf pools.parents leaf) (used_read : used ≡ get_or pools.used leaf used) (root_read : root ≡ get_or sums 0 root) (was_read : was ≡ get_or sums leaf was) (amount_read : amount ≡ quantum pools.unit (max used bytes)) where
  root_sum : root ≡ get_or sums 0 0
  root_sum =
      let size : length sums ≡ length pools.parents + 1 = sums_count pools sums kept in
      root_read ∙ get_or_default_zero sums 0 root (omega arith)

  was_sum : was ≡ get_or sums leaf 0
  was_sum =
      let there : leaf ≤ length pools.parents = is_leaf.there in
      let size : length sums ≡ length pools.parents + 1 = sums_count pools sums kept in
      was_read ∙ get_or_default_zero sums leaf was (omega arith)

  amount_is : amount ≡ quantum pools.unit (max (used_of pools leaf) bytes)
  amount_is =
      amount_read ∙ ap (λ n. quantum pools.unit (max n bytes)) (used_is pools sums kept leaf is_leaf used used_read)

  pub was_within : was ≤ root
  was_within =
      let most : get_or sums leaf 0 ≤ get_or sums 0 0 = leaf_within pools sums kept leaf is_leaf.there in
      let root_is = root_sum in
      let was_is = was_sum in
      omega (arith, root_is, was_is)

  -- the root and the new amount together fit
  pub would_fits : bytes ≤ 2 ^ 40 → root + amount < 2 ^ 64
  would_fits most =
      let bounded : used ≤ 2 ^ 33 = used_bounded pools sums kept leaf is_leaf used used_read in
      let fits : get_or sums 0 0 + quantum pools.unit (max used bytes) < 2 ^ 64 =
      amount_fits pools sums kept leaf is_leaf (max used bytes) (omega arith) in
      let root_is = root_sum in
      omega (arith, root_is, amount_read, fits)

  -- what is answered is what the root would have reserved
  would_read : root - was + amount ≡ would_reserve pools leaf bytes
  would_read =
      let is : would_reserve pools leaf bytes ≡ get_or sums 0 0 - get_or sums leaf 0 + quantum pools.unit (max (used_of pools leaf) bytes) =
      would_is pools sums kept leaf bytes is_leaf in
      let root_is = root_sum in
      let was_is = was_sum in
      let amount_is_too = amount_is in
      rw (is, ← root_is, ← was_is, ← amount_is_too) refl

  pub would_seen : (now : Pools) → pools ≡ now → root - was + amount ≡ would_reserve now leaf bytes
  would_seen now is =
      subst (λ (each : Pools). root - was + amount ≡ would_reserve each leaf bytes) is would_read

-- where there is no room, the three numbers show it
pub explained : (pools : Pools) (sums : List ℕ) → IsKept pools sums → (now : Pools) → pools ≡ now → (leaf bytes capacity reserved would : ℕ) → capacity ≡ pools.capacity → reserved ≡ get_or sums 0 reserved → would ≡ would_reserve now leaf bytes → Explains now leaf bytes (record { capacity = capacity; reserved = reserved; would = would })
explained pools sums kept now is leaf bytes capacity reserved would capacity_is read would_is_it = record {
  capacity = capacity_is ∙ ap (λ (each : Pools). each.capacity) is;
  reserved = sum_is pools sums kept 0 reserved (omega arith) read ∙ ap (λ (each : Pools). reserved_of each 0) is;
  would = would_is_it;
}

-- where there is room, the tree follows the rule
pub kept_reserved : (pools : Pools) (sums : List ℕ) → IsKept pools sums → (now : Pools) → pools ≡ now → (leaf bytes would amount : ℕ) → IsLeaf pools.parents leaf → would ≡ would_reserve now leaf bytes → amount ≡ quantum pools.unit (max (used_of pools leaf) bytes) → (new : List ℕ) (capacity peak : ℕ) → Moves pools.parents sums new leaf amount → capacity ≡ pools.capacity → would ≤ capacity → peak ≡ max pools.peak would → IsKept (record (with_ahead pools leaf bytes) { peak = peak }) new
kept_reserved pools sums kept now is leaf bytes would amount is_leaf would_now amount_is new capacity peak moves capacity_is room peak_is =
    let would_then : would ≡ would_reserve pools leaf bytes =
    would_now ∙ ap (λ (each : Pools). would_reserve each leaf bytes) (sym is) in
    let sum : would_reserve pools leaf bytes ≡ get_or sums 0 0 - get_or sums leaf 0 + quantum pools.unit (max (used_of pools leaf) bytes) =
    would_is pools sums kept leaf bytes is_leaf in
    let within : get_or sums leaf 0 ≤ get_or sums 0 0 = leaf_within pools sums kept leaf is_leaf.there in
    let moved_root : get_or new 0 0 + get_or sums leaf 0 ≡ get_or sums 0 0 + amount = moves.root in
    let new_root : get_or new 0 0 ≡ would = omega (arith, would_then, sum, amount_is) in
    kept_ahead pools sums kept leaf bytes is_leaf new peak
    (subst (λ (n : ℕ). Moves pools.parents sums new leaf n) amount_is moves)
    (omega (arith, new_root)) (omega (arith, new_root))

-- a leaf has at least as much reserved as it uses, and as it has ahead
pub leaf_room : (pools : Pools) (sums : List ℕ) → IsKept pools sums → (leaf : ℕ) → IsLeaf pools.parents leaf → max (used_of pools leaf) (ahead_of pools leaf) ≤ reserved_of pools leaf
leaf_room pools sums kept leaf is_leaf =
    let low : 4096 ≤ pools.unit = kept.tree.unit.low in
    let enough : max (used_of pools leaf) (ahead_of pools leaf) ≤ leaf_reserves pools leaf =
    quantum_enough pools.unit (omega arith) (max (used_of pools leaf) (ahead_of pools leaf)) in
    let is : reserved_of pools leaf ≡ leaf_reserves pools leaf =
    reserved_is pools sums kept leaf is_leaf.there ∙ leaf_is pools sums kept leaf is_leaf in
    subst (λ (n : ℕ). max (used_of pools leaf) (ahead_of pools leaf) ≤ n) (sym is) enough

-- what was set ahead has room
pub ahead_room : (pools : Pools) (leaf bytes peak : ℕ) (sums : List ℕ) → length pools.ahead ≡ node_count pools → IsLeaf pools.parents leaf → IsKept (record (with_ahead pools leaf bytes) { peak = peak }) sums → bytes ≤ reserved_of (record (with_ahead pools leaf bytes) { peak = peak }) leaf
ahead_room pools leaf bytes peak sums size is_leaf kept =
    let there : leaf ≤ length pools.parents = is_leaf.there in
    let lt : leaf < length pools.ahead = omega (arith, size) in
    let set_is : get_or (set pools.ahead leaf bytes) leaf 0 ≡ bytes = get_or-set_same pools.ahead leaf bytes 0 lt in
    let room : max (used_of pools leaf) (get_or (set pools.ahead leaf bytes) leaf 0) ≤ reserved_of (record (with_ahead pools leaf bytes) { peak = peak }) leaf =
    leaf_room (record (with_ahead pools leaf bytes) { peak = peak }) sums kept leaf is_leaf in
    omega (arith, set_is, room)
