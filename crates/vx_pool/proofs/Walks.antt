-- A walk from a leaf to the root that sets the leaf's amount.
use Rattle.std.proofs.Common.{◌≡◌, ◌≢◌, ℕ, zero, suc, ◌+◌, ◌-◌, ◌<◌, ◌≤◌, true, false, List, length, get_or, set, refl, sym, ap, ◌∙◌, subst, arith, get_or-set_same, get_or-set_other, length-set}
use Rattle.std.specs.Prelude.{if◌then◌else◌}
use Rattle.std.proofs.Common.{inl, inr}
use Rattle.std.proofs.lemmas.Bool.{cases_eq}
use Rattle.vx_pool.specs.Pools.{IsShape, IsLeaf, has_child}
use Rattle.vx_pool.specs.Sums.{AddsUp, Moves, sum_below}
use Rattle.vx_pool.proofs.SumLemmas.{has_child_at, children_sum_same, children_sum_within, children_sum_moved}

-- what a node's sum is to be
abbrev pub due : List ℕ → List ℕ → ℕ → ℕ → ℕ
due parents sums amount node = if has_child parents node then sum_below parents sums node else amount

-- the sums of all nodes below `node` on the path are set, and those from it on are as they were
pub record Walks (parents old sums : List ℕ) (leaf amount node : ℕ) : Type 0 where
  pub size : length sums ≡ length parents + 1
  pub there : node ≤ length parents
  pub inner : (n : ℕ) → n < length sums → n ≢ node → has_child parents n ≡ true
      → get_or sums n 0 ≡ sum_below parents sums n
  pub here : get_or sums node 0 + amount ≡ get_or old leaf 0 + due parents sums amount node
  pub least : amount ≤ due parents sums amount node
  pub path : has_child parents node ≡ false → node ≡ leaf
  pub changed : node ≢ leaf → get_or sums leaf 0 ≡ amount
  pub others : (n : ℕ) → n ≢ leaf → has_child parents n ≡ false → get_or sums n 0 ≡ get_or old n 0
  pub above : (n : ℕ) → n ≤ node → get_or sums n 0 ≡ get_or old n 0

module _ (parents old sums : List ℕ) (leaf amount node : ℕ) (walks : Walks parents old sums leaf amount node) where
  -- what the walk writes at a node is what is due there
  pub writes_due : get_or sums node 0 - get_or old leaf 0 + amount ≡ due parents sums amount node
  writes_due =
      let here : get_or sums node 0 + amount ≡ get_or old leaf 0 + due parents sums amount node =
      walks.here in
      let least : amount ≤ due parents sums amount node = walks.least in
      omega arith

-- a write at a node changes no sum over the children of another node than its parent
pub sum_below-set : (parents sums : List ℕ) (n node value : ℕ) → ((i : ℕ) → i < length parents → get_or parents i 0 ≡ n → 1 + i ≢ node) → sum_below parents (set sums node value) n ≡ sum_below parents sums n
sum_below-set parents sums n node value apart =
    children_sum_same (λ k. get_or (set sums node value) k 0) (λ k. get_or sums k 0) n 1 parents
    (λ i lt is. get_or-set_other sums node (1 + i) value 0 (apart i lt is))

module _ (parents old sums : List ℕ) (leaf amount i : ℕ) (shape : IsShape parents) (is_leaf : IsLeaf parents leaf) (walks : Walks parents old sums leaf amount (suc i)) where
  new : List ℕ
  new = set sums (suc i) (get_or sums (suc i) 0 - get_or old leaf 0 + amount)

  up : ℕ
  up = get_or parents i 0

  inside : i < length parents
  inside = let there : suc i ≤ length parents = walks.there in omega arith

  up_below : up ≤ i
  unfolding up
  up_below = shape i inside

  up_has_child : has_child parents up ≡ true
  unfolding up
  up_has_child = has_child_at parents i _ inside refl

  written : get_or new (suc i) 0 ≡ due parents sums amount (suc i)
  unfolding new
  written =
      let size : length sums ≡ length parents + 1 = walks.size in
      let lt : suc i < length sums = let h = inside in omega (arith, h) in
      get_or-set_same sums (suc i) _ 0 lt ∙ writes_due parents old sums leaf amount (suc i) walks

  kept : (n : ℕ) → n ≢ suc i → get_or new n 0 ≡ get_or sums n 0
  unfolding new
  kept n ne = get_or-set_other sums (suc i) n _ 0 ne

  -- a node other than the parent has the same sum below it
  same_below : (n : ℕ) → n ≢ up → sum_below parents new n ≡ sum_below parents sums n
  unfolding new up
  same_below n ne =
      sum_below-set parents sums n (suc i) _
      (λ j lt is same. let e : j ≡ i = omega arith in ne (sym is ∙ ap (λ k. get_or parents k 0) e))

  -- the parent's grows by as much as the node's
  up_moves : sum_below parents new up + get_or sums (suc i) 0 ≡ sum_below parents sums up + get_or new (suc i) 0
  unfolding up
  up_moves =
      let moved : 1 + i ≡ suc i = omega arith in
      let sums_move : sum_below parents new (get_or parents i 0) + get_or sums (1 + i) 0 ≡ sum_below parents sums (get_or parents i 0) + get_or new (1 + i) 0 =
      children_sum_moved (λ k. get_or sums k 0) (λ k. get_or new k 0) (get_or parents i 0) 1 parents i inside refl
      (λ k ne. sym (kept k (λ same. ne (same ∙ sym moved)))) in
      subst (λ (k : ℕ). sum_below parents new (get_or parents i 0) + get_or sums k 0 ≡ sum_below parents sums (get_or parents i 0) + get_or new k 0) moved sums_move

  up_has : get_or new (suc i) 0 ≤ sum_below parents new up
  unfolding up
  up_has =
      let moved : 1 + i ≡ suc i = omega arith in
      subst (λ (k : ℕ). get_or new k 0 ≤ sum_below parents new (get_or parents i 0)) moved
      (children_sum_within (λ k. get_or new k 0) (get_or parents i 0) 1 parents i inside refl)

  due_up : due parents new amount up ≡ sum_below parents new up
  due_up = rw up_has_child refl

  new_inner : (n : ℕ) → n < length new → n ≢ up → has_child parents n ≡ true → get_or new n 0 ≡ sum_below parents new n
  unfolding new
  new_inner n lt ne child =
      elim (cases_eq n (suc i)) [
        | inl same ↦
            (let here : get_or new (suc i) 0 ≡ due parents sums amount (suc i) = written in
            let above : has_child parents (suc i) ≡ true = subst (λ (k : ℕ). has_child parents k ≡ true) same child in
            let below : due parents sums amount (suc i) ≡ sum_below parents sums (suc i) = rw above refl in
            let apart : suc i ≢ up = subst (λ (k : ℕ). k ≢ up) same ne in
            let stays : sum_below parents new (suc i) ≡ sum_below parents sums (suc i) = same_below (suc i) apart in
            subst (λ (k : ℕ). get_or new k 0 ≡ sum_below parents new k) (sym same) (here ∙ below ∙ sym stays))
        | inr other ↦
            (let size : length new ≡ length sums = length-set sums (suc i) _ in
            let there : n < length sums = omega (arith, size) in
            let stays : sum_below parents new n ≡ sum_below parents sums n = same_below n ne in
            kept n other ∙ walks.inner n there other child ∙ sym stays)
      ]

  up_apart : up ≢ suc i
  up_apart = let h : up ≤ i = up_below in λ same. omega (arith, h, same)

  new_here : get_or new up 0 + amount ≡ get_or old leaf 0 + due parents new amount up
  new_here =
      let below : up ≤ i = up_below in
      let is_due : due parents new amount up ≡ sum_below parents new up = due_up in
      let size : length sums ≡ length parents + 1 = walks.size in
      let inner : get_or sums up 0 ≡ sum_below parents sums up =
      walks.inner up (let h = inside in omega (arith, h)) up_apart up_has_child in
      let stays : get_or new up 0 ≡ get_or sums up 0 = kept up up_apart in
      let moves : sum_below parents new up + get_or sums (suc i) 0 ≡ sum_below parents sums up + get_or new (suc i) 0 = up_moves in
      let here : get_or sums (suc i) 0 + amount ≡ get_or old leaf 0 + due parents sums amount (suc i) = walks.here in
      let wrote : get_or new (suc i) 0 ≡ due parents sums amount (suc i) = written in
      omega arith

  new_least : amount ≤ due parents new amount up
  new_least =
      let is_due : due parents new amount up ≡ sum_below parents new up = due_up in
      let wrote : get_or new (suc i) 0 ≡ due parents sums amount (suc i) = written in
      let has : get_or new (suc i) 0 ≤ sum_below parents new up = up_has in
      let least : amount ≤ due parents sums amount (suc i) = walks.least in
      omega arith

  up_is_no_leaf : up ≢ leaf
  up_is_no_leaf same =
      let child : has_child parents leaf ≡ true = subst (λ (k : ℕ). has_child parents k ≡ true) same up_has_child in
      let childless : has_child parents leaf ≡ false = is_leaf.childless in
      (cc)

  new_changed : get_or new leaf 0 ≡ amount
  new_changed =
      elim (cases_eq (suc i) leaf) [
        | inl same ↦
            (let childless : has_child parents (suc i) ≡ false = subst (λ (k : ℕ). has_child parents k ≡ false) (sym same) is_leaf.childless in
            let is_amount : due parents sums amount (suc i) ≡ amount = rw childless refl in
            subst (λ (k : ℕ). get_or new k 0 ≡ amount) same (written ∙ is_amount))
        | inr other ↦ kept leaf (λ same. other (sym same)) ∙ walks.changed other
      ]

  new_others : (n : ℕ) → n ≢ leaf → has_child parents n ≡ false → get_or new n 0 ≡ get_or old n 0
  new_others n ne childless =
      elim (cases_eq n (suc i)) [
        | inl same ↦
            (let here : suc i ≡ leaf = walks.path (subst (λ (k : ℕ). has_child parents k ≡ false) same childless) in
            absurd (ne (same ∙ here)))
        | inr other ↦ kept n other ∙ walks.others n ne childless
      ]

  -- the walk goes up by one node
  pub walks_up : Walks parents old (set sums (suc i) (get_or sums (suc i) 0 - get_or old leaf 0 + amount)) leaf amount (get_or parents i 0)
  unfolding new up
  walks_up = record {
    size = length-set sums (suc i) _ ∙ walks.size;
    there = (let h = inside in let below = up_below in omega (arith, h, below));
    inner = new_inner;
    here = new_here;
    least = new_least;
    path = (λ childless. let child = up_has_child in (cc));
    changed = (λ _. new_changed);
    others = new_others;
    above = (λ n le. let below = up_below in kept n (omega (arith, below)) ∙ walks.above n (omega (arith, below)));
  }

-- at the root the walk is over
module _ (parents old sums : List ℕ) (leaf amount : ℕ) (shape : IsShape parents) (is_leaf : IsLeaf parents leaf) (walks : Walks parents old sums leaf amount 0) where
  last : List ℕ
  last = set sums 0 (get_or sums 0 0 - get_or old leaf 0 + amount)

  last_written : get_or last 0 0 ≡ due parents sums amount 0
  unfolding last
  last_written =
      let size : length sums ≡ length parents + 1 = walks.size in
      let lt : 0 < length sums = omega arith in
      get_or-set_same sums 0 _ 0 lt ∙ writes_due parents old sums leaf amount 0 walks

  last_kept : (n : ℕ) → n ≢ 0 → get_or last n 0 ≡ get_or sums n 0
  unfolding last
  last_kept n ne = get_or-set_other sums 0 n _ 0 ne

  last_below : (n : ℕ) → sum_below parents last n ≡ sum_below parents sums n
  unfolding last
  last_below n = sum_below-set parents sums n 0 _ (λ j lt is. omega arith)

  last_inner : (n : ℕ) → n < length last → has_child parents n ≡ true → get_or last n 0 ≡ sum_below parents last n
  unfolding last
  last_inner n lt child =
      elim (cases_eq n 0) [
        | inl same ↦
            (let above : has_child parents 0 ≡ true = subst (λ (k : ℕ). has_child parents k ≡ true) same child in
            let below : due parents sums amount 0 ≡ sum_below parents sums 0 = rw above refl in
            subst (λ (k : ℕ). get_or last k 0 ≡ sum_below parents last k) (sym same) (last_written ∙ below ∙ sym (last_below 0)))
        | inr other ↦
            (let size : length last ≡ length sums = length-set sums 0 _ in
            let there : n < length sums = omega (arith, size) in
            last_kept n other ∙ walks.inner n there other child ∙ sym (last_below n))
      ]

  last_changed : get_or last leaf 0 ≡ amount
  last_changed =
      elim (cases_eq 0 leaf) [
        | inl same ↦
            (let childless : has_child parents 0 ≡ false = subst (λ (k : ℕ). has_child parents k ≡ false) (sym same) is_leaf.childless in
            let is_amount : due parents sums amount 0 ≡ amount = rw childless refl in
            subst (λ (k : ℕ). get_or last k 0 ≡ amount) same (last_written ∙ is_amount))
        | inr other ↦ last_kept leaf (λ same. other (sym same)) ∙ walks.changed other
      ]

  last_others : (n : ℕ) → n ≢ leaf → has_child parents n ≡ false → get_or last n 0 ≡ get_or old n 0
  last_others n ne childless =
      elim (cases_eq n 0) [
        | inl same ↦
            (let here : 0 ≡ leaf = walks.path (subst (λ (k : ℕ). has_child parents k ≡ false) same childless) in
            absurd (ne (same ∙ here)))
        | inr other ↦ last_kept n other ∙ walks.others n ne childless
      ]

  last_root : get_or last 0 0 + get_or old leaf 0 ≡ get_or old 0 0 + amount
  last_root =
      let wrote : get_or last 0 0 ≡ due parents sums amount 0 = last_written in
      let here : get_or sums 0 0 + amount ≡ get_or old leaf 0 + due parents sums amount 0 = walks.here in
      let was : get_or sums 0 0 ≡ get_or old 0 0 = walks.above 0 (omega arith) in
      omega arith

  pub walks_end : Moves parents old (set sums 0 (get_or sums 0 0 - get_or old leaf 0 + amount)) leaf amount
  unfolding last
  walks_end = record {
    adds_up = record { size = length-set sums 0 _ ∙ walks.size; inner = last_inner };
    changed = last_changed;
    others = last_others;
    root = last_root;
  }

-- a walk begins at the leaf
pub walks_start : (parents old : List ℕ) (leaf amount : ℕ) → AddsUp parents old → IsLeaf parents leaf → Walks parents old old leaf amount leaf
walks_start parents old leaf amount adds is_leaf =
    let childless : has_child parents leaf ≡ false = is_leaf.childless in
    let is_amount : due parents old amount leaf ≡ amount = rw childless refl in
    record {
      size = adds.size;
      there = is_leaf.there;
      inner = (λ n lt _ child. adds.inner n lt child);
      here = omega (arith, is_amount);
      least = omega (arith, is_amount);
      path = (λ _. refl);
      changed = (λ ne. absurd (ne refl));
      others = (λ _ _ _. refl);
      above = (λ _ _. refl);
    }

-- every walk comes to its end
walks_to : (parents old : List ℕ) (leaf amount : ℕ) → IsShape parents → IsLeaf parents leaf → (steps : ℕ) (sums : List ℕ) (node : ℕ) → node ≤ steps → Walks parents old sums leaf amount node → (new : List ℕ) × Moves parents old new leaf amount
walks_to parents old leaf amount shape is_leaf steps sums zero le walks =
    (_, walks_end parents old sums leaf amount shape is_leaf walks)
walks_to parents old leaf amount shape is_leaf zero sums (suc i) le walks = absurd (omega arith)
walks_to parents old leaf amount shape is_leaf (suc steps) sums (suc i) le walks =
    let there : suc i ≤ length parents = walks.there in
    let below : get_or parents i 0 ≤ i = shape i (omega arith) in
    walks_to parents old leaf amount shape is_leaf steps _ (get_or parents i 0) (omega arith)
    (walks_up parents old sums leaf amount i shape is_leaf walks)

-- sums that add up can be moved to any amount of a leaf
pub moves_there : (parents old : List ℕ) (leaf amount : ℕ) → IsShape parents → IsLeaf parents leaf → AddsUp parents old → (new : List ℕ) × Moves parents old new leaf amount
moves_there parents old leaf amount shape is_leaf adds =
    walks_to parents old leaf amount shape is_leaf leaf old leaf (omega arith)
    (walks_start parents old leaf amount adds is_leaf)

-- both steps as a loop has them, at any node that is or isn't the root
pub walks_on : (parents old sums : List ℕ) (leaf amount node : ℕ) → IsShape parents → IsLeaf parents leaf → Walks parents old sums leaf amount node → 0 < node → Walks parents old (set sums node (get_or sums node 0 - get_or old leaf 0 + amount)) leaf amount (get_or parents (node - 1) 0)
walks_on parents old sums leaf amount zero shape is_leaf walks lt = absurd (omega arith)
walks_on parents old sums leaf amount (suc i) shape is_leaf walks lt =
    let back : suc i - 1 ≡ i = omega arith in
    rw back (walks_up parents old sums leaf amount i shape is_leaf walks)

pub walks_done : (parents old sums : List ℕ) (leaf amount node : ℕ) → IsShape parents → IsLeaf parents leaf → Walks parents old sums leaf amount node → node ≤ 0 → Moves parents old (set sums 0 (get_or sums 0 0 - get_or old leaf 0 + amount)) leaf amount
walks_done parents old sums leaf amount zero shape is_leaf walks le =
    walks_end parents old sums leaf amount shape is_leaf walks
walks_done parents old sums leaf amount (suc i) shape is_leaf walks le = absurd (omega arith)
