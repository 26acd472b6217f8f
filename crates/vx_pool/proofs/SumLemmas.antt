-- Sums over a node's children, and what it means that a tree's sums add up.
use Rattle.std.proofs.Common.{inl, inr, ◌≡◌, ◌≢◌, ℕ, zero, suc, ◌+◌, ◌<◌, ◌≤◌, Bool, true, false, eqb, List, [], ◌∷◌, length, get_or, refl, sym, ◌∙◌, subst, arith}
use Rattle.std.proofs.lemmas.Bool.{cases_eq}
use Rattle.std.specs.Prelude.{if◌then◌else◌}
use Rattle.std.proofs.lemmas.Bool.Decides.{nat_tests}
use Rattle.std.proofs.lemmas.List.Folds.{list_any_at}
use Rattle.vx_pool.specs.Pools.{IsShape, has_child, children_sum, added_up}
use Rattle.vx_pool.specs.Sums.{AddsUp, Moves, HasSums, sum_below}

-- a node that is some node's parent has a child
pub has_child_at : (parents : List ℕ) (i node : ℕ) → i < length parents → get_or parents i 0 ≡ node → has_child parents node ≡ true
has_child_at parents i node lt is =
    list_any_at (λ parent. eqb parent node) parents i 0 lt (grind (arith, nat_tests))

-- two amounts that agree at a node's children have the same sum there
pub children_sum_same : (f g : ℕ → ℕ) (node first : ℕ) (parents : List ℕ) → ((i : ℕ) → i < length parents → get_or parents i 0 ≡ node → f (first + i) ≡ g (first + i)) → children_sum f node first parents ≡ children_sum g node first parents
children_sum_same f g node first [] same = refl
children_sum_same f g node first (parent ∷ rest) same =
    let later : children_sum f node (suc first) rest ≡ children_sum g node (suc first) rest =
    children_sum_same f g node (suc first) rest
    (λ i lt is.
    let moved : first + suc i ≡ suc first + i = omega arith in
    subst (λ (k : ℕ). f k ≡ g k) moved (same (suc i) (omega arith) is)) in
    let here : parent ≡ node → f first ≡ g first =
    λ is.
    let start : first + 0 ≡ first = omega arith in
    subst (λ (k : ℕ). f k ≡ g k) start (same 0 (omega arith) is) in
    grind (arith, nat_tests, later, here)

-- a child has no more than all children together
pub children_sum_within : (f : ℕ → ℕ) (node first : ℕ) (parents : List ℕ) (i : ℕ) → i < length parents → get_or parents i 0 ≡ node → f (first + i) ≤ children_sum f node first parents
children_sum_within f node first [] i lt is = absurd (omega arith)
children_sum_within f node first (parent ∷ rest) zero lt is =
    let start : first + 0 ≡ first = omega arith in rw start (grind (arith, nat_tests))
children_sum_within f node first (parent ∷ rest) (suc i) lt is =
    let moved : first + suc i ≡ suc first + i = omega arith in
    let later : f (suc first + i) ≤ children_sum f node (suc first) rest =
    children_sum_within f node (suc first) rest i (omega arith) is in
    rw moved (omega (arith, later))

-- where amounts differ at one child alone, so do the sums, by as much
pub children_sum_moved : (f g : ℕ → ℕ) (node first : ℕ) (parents : List ℕ) (i : ℕ) → i < length parents → get_or parents i 0 ≡ node → ((k : ℕ) → k ≢ first + i → f k ≡ g k) → children_sum g node first parents + f (first + i) ≡ children_sum f node first parents + g (first + i)
children_sum_moved f g node first [] i lt is same = absurd (omega arith)
children_sum_moved f g node first (parent ∷ rest) zero lt is same =
    let start : first + 0 ≡ first = omega arith in
    let later : children_sum f node (suc first) rest ≡ children_sum g node (suc first) rest =
    children_sum_same f g node (suc first) rest (λ k _ _. same (suc first + k) (omega arith)) in
    rw start (grind (arith, nat_tests, later, is))
children_sum_moved f g node first (parent ∷ rest) (suc i) lt is same =
    let moved : first + suc i ≡ suc first + i = omega arith in
    let here : f first ≡ g first = same first (omega arith) in
    let later : children_sum g node (suc first) rest + f (suc first + i) ≡ children_sum f node (suc first) rest + g (suc first + i) =
    children_sum_moved f g node (suc first) rest i (omega arith) is (λ k ne. same k (omega arith)) in
    rw moved (grind (arith, nat_tests, later, here))

-- nothing adds up to nothing
pub children_sum_none : (f : ℕ → ℕ) (node first : ℕ) (parents : List ℕ) → ((k : ℕ) → f k ≡ 0) → children_sum f node first parents ≡ 0
children_sum_none f node first [] none = refl
children_sum_none f node first (parent ∷ rest) none =
    grind (arith, nat_tests, none first, children_sum_none f node (suc first) rest none)

-- no node has more than the root
within_root_to : (parents sums : List ℕ) (depth node : ℕ) → IsShape parents → AddsUp parents sums → node < depth → node < length sums → get_or sums node 0 ≤ get_or sums 0 0
within_root_to parents sums zero node shape adds lt there = absurd (omega arith)
within_root_to parents sums (suc depth) zero shape adds lt there = omega arith
within_root_to parents sums (suc depth) (suc i) shape adds lt there =
    let size : length sums ≡ length parents + 1 = adds.size in
    let inside : i < length parents = omega arith in
    let above : get_or parents i 0 ≤ i = shape i inside in
    let child : get_or sums (1 + i) 0 ≤ sum_below parents sums (get_or parents i 0) =
    children_sum_within (λ k. get_or sums k 0) (get_or parents i 0) 1 parents i inside refl in
    let parent : get_or sums (get_or parents i 0) 0 ≡ sum_below parents sums (get_or parents i 0) =
    adds.inner (get_or parents i 0) (omega arith) (has_child_at parents i _ inside refl) in
    let rest : get_or sums (get_or parents i 0) 0 ≤ get_or sums 0 0 =
    within_root_to parents sums depth (get_or parents i 0) shape adds (omega arith) (omega arith) in
    let moved : suc i ≡ 1 + i = omega arith in
    rw moved (omega (arith, child, parent, rest))

pub within_root : (parents sums : List ℕ) (node : ℕ) → IsShape parents → AddsUp parents sums → node < length sums → get_or sums node 0 ≤ get_or sums 0 0
within_root parents sums node shape adds there =
    within_root_to parents sums (suc node) node shape adds (omega arith) there

-- sums that add up, and are right at the leaves, are what the nodes have
added_up_is_to : (own : ℕ → ℕ) (parents sums : List ℕ) (depth node : ℕ) → IsShape parents → HasSums own parents sums → length sums ≤ node + depth → node < length sums → added_up own parents depth node ≡ get_or sums node 0
added_up_is_to own parents sums zero node shape has deep there = absurd (omega arith)
added_up_is_to own parents sums (suc depth) node shape has deep there =
    let size : length sums ≡ length parents + 1 = has.adds_up.size in
    let below : children_sum (added_up own parents depth) node 1 parents ≡ sum_below parents sums node =
    children_sum_same (added_up own parents depth) (λ k. get_or sums k 0) node 1 parents
    (λ i lt is.
    let above : get_or parents i 0 ≤ i = shape i lt in
    added_up_is_to own parents sums depth (1 + i) shape has (omega arith) (omega arith)) in
    let inner : has_child parents node ≡ true → get_or sums node 0 ≡ sum_below parents sums node =
    has.adds_up.inner node there in
    let leaf : has_child parents node ≡ false → get_or sums node 0 ≡ own node =
    has.leaves node there in
    by_child own parents sums depth node (has_child parents node) below inner leaf
  where
    by_child : (own : ℕ → ℕ) (parents sums : List ℕ) (depth node : ℕ) (b : Bool) → children_sum (added_up own parents depth) node 1 parents ≡ sum_below parents sums node → (b ≡ true → get_or sums node 0 ≡ sum_below parents sums node) → (b ≡ false → get_or sums node 0 ≡ own node) → (if b then children_sum (added_up own parents depth) node 1 parents else own node) ≡ get_or sums node 0
    by_child own parents sums depth node true below inner leaf = below ∙ sym (inner refl)
    by_child own parents sums depth node false below inner leaf = sym (leaf refl)

pub added_up_is : (own : ℕ → ℕ) (parents sums : List ℕ) (node : ℕ) → IsShape parents → HasSums own parents sums → node < length sums → added_up own parents (length parents + 1) node ≡ get_or sums node 0
added_up_is own parents sums node shape has there =
    let size : length sums ≡ length parents + 1 = has.adds_up.size in
    added_up_is_to own parents sums (length parents + 1) node shape has (omega arith) there

-- the sums after a leaf's amount has changed, and no other leaf's
pub has_moved : (own next : ℕ → ℕ) (parents sums new : List ℕ) (leaf amount : ℕ) → HasSums own parents sums → Moves parents sums new leaf amount → next leaf ≡ amount → ((node : ℕ) → node ≢ leaf → next node ≡ own node) → HasSums next parents new
has_moved own next parents sums new leaf amount has moves here others =
    let size : length sums ≡ length parents + 1 = has.adds_up.size in
    let new_size : length new ≡ length parents + 1 = moves.adds_up.size in
    record {
      adds_up = moves.adds_up;
      leaves = (λ node there childless. elim (cases_eq node leaf) [
        | inl same ↦ subst (λ (k : ℕ). get_or new k 0 ≡ next k) (sym same) (moves.changed ∙ sym here)
        | inr other ↦
            moves.others node other childless ∙ has.leaves node (omega arith) childless ∙ sym (others node other)
      ]);
    }
