-- The first block of a list leaves it and is live.
use Rattle.std.proofs.Common.{inl, inr, ◌≡◌, ◌≢◌, ℕ, ◌*◌, ◌<◌, ◌≤◌, true, false, Some, None, List, [], ◌∷◌, length, get_or, set, refl, sym, ap, ◌∙◌, subst, arith}
use Rattle.std.proofs.lemmas.Bool.{cases_eq}
use Rattle.std.proofs.lemmas.List.{length-set}
use Rattle.vx_arena.specs.Block.{Block}
use Rattle.vx_arena.specs.Chunks.{Chunks}
use Rattle.vx_arena.specs.Names.{none, block_of, IsNamed, Changes}
use Rattle.vx_arena.specs.Free.{class_of, next_in, before_in, Node, first_of, IsLinked, IsIn, IsListed, SetsBefore}
use Rattle.vx_arena.proofs.Linking.{not_found, named_from}
use Rattle.vx_arena.proofs.Relinking.{IsFree, same_block, frame, behind, rehead, head_class, Split, split_list, Was, was_some}
use Rattle.vx_arena.proofs.Pushing.{with_list, with_list_same, with_list_other, same_heads, live_not_free, long_changed, long_was}

in_rest : (list rest : List ℕ) (name n : ℕ) → list ≡ name ∷ rest → (n ≡ name → ⊥) → IsIn list n → IsIn rest n
in_rest list rest name n is ne there = elim (subst (λ (l : List ℕ). IsIn l n) is there) as (λ _. IsIn rest n) [
  | inl e ↦ absurd (ne e)
  | inr later ↦ later
]

module _ (a : Chunks) (heads : List ℕ) (name class : ℕ) (listed : IsListed a heads) (lt8 : class < 8) (name_is : name ≡ get_or heads class 0) (ne : name ≢ none) where
  pub cut : Split (listed.lists class) name
  cut = split_list (listed.lists class) name (name_is ∙ listed.first class lt8) ne

  pub linked_list : IsLinked a class none (name ∷ cut.rest)
  linked_list = subst (λ (l : List ℕ). IsLinked a class none l) cut.is (listed.linked class lt8)

  -- the first of the list is a free block
  pub head_node : Node a class none name (first_of cut.rest)
  head_node = linked_list.0

  next_named : (rest : List ℕ) → IsLinked a class name rest → first_of rest ≢ none → IsNamed a (first_of rest)
  next_named [] linked away = absurd (away refl)
  next_named (m ∷ rest) linked away = named_from a m linked.0.block linked.0.is

  -- and so is the next, if there is one
  pub next_there : first_of cut.rest ≢ none → IsNamed a (first_of cut.rest)
  next_there = next_named cut.rest linked_list.1

  next_apart : (rest : List ℕ) → IsLinked a class name rest → first_of rest ≡ name → ⊥
  next_apart [] linked e = absurd (ne (sym e))
  next_apart (m ∷ rest) linked e =
      let node : Node a class name m (first_of rest) = linked.0 in
      let one : node.block ≡ head_node.block = same_block a name node.block head_node.block (subst (λ (k : ℕ). block_of a k ≡ Some node.block) e node.is) head_node.is in
      let link : name ≡ none = sym node.before_is ∙ (ap (λ (x : Block). before_in x.payload) one ∙ head_node.before_is) in
      absurd (ne link)

  pub next_other : first_of cut.rest ≡ name → ⊥
  next_other = next_apart cut.rest linked_list.1

-- no list has a block where its head is none
pub no_head : (a : Chunks) (heads : List ℕ) (class : ℕ) (listed : IsListed a heads) → class < 8 → get_or heads class 0 ≡ none → (n : ℕ) (b : Block) → block_of a n ≡ Some b → b.live ≡ false → class_of (length b.payload) ≡ class → ⊥
no_head a heads class listed lt is n b at free own = empty (listed.lists class) (listed.linked class lt) (sym (listed.first class lt) ∙ is) (subst (λ (k : ℕ). IsIn (listed.lists k) n) own (listed.all n b at free)) where
  empty : (list : List ℕ) → IsLinked a class none list → first_of list ≡ none → IsIn list n → ⊥
  empty [] linked e there = there
  empty (m ∷ rest) linked e there = not_found a none linked.0.block listed.none_is (subst (λ (k : ℕ). block_of a k ≡ Some linked.0.block) e linked.0.is)

module _ (a c d : Chunks) (heads : List ℕ) (name class next : ℕ) (b : Block) (listed : IsListed a heads) (lt8 : class < 8) (name_is : name ≡ get_or heads class 0) (ne : name ≢ none) (is : block_of a name ≡ Some b) (next_is : next ≡ next_in b.payload) (put : Changes a c name (record { live = true; payload = b.payload })) (sets : SetsBefore c d next none) where
  split : Split (listed.lists class) name
  split = cut a heads name class listed lt8 name_is ne

  rest : List ℕ
  rest = split.rest

  node : Node a class none name (first_of rest)
  unfolding rest split
  node = head_node a heads name class listed lt8 name_is ne

  tail : IsLinked a class name rest
  unfolding rest split
  tail = (linked_list a heads name class listed lt8 name_is ne).1

  list_is : listed.lists class ≡ name ∷ rest
  unfolding rest split
  list_is = split.is

  block_is : b ≡ node.block
  block_is = same_block a name b node.block is node.is

  next_first : next ≡ first_of rest
  next_first = next_is ∙ (ap (λ (x : Block). next_in x.payload) block_is ∙ node.next_is)

  none_mid : block_of c none ≡ None
  none_mid = put.others none (λ e. ne (sym e)) ∙ listed.none_is

  long_mid : (n : ℕ) (x : Block) → block_of c n ≡ Some x → 16 ≤ length x.payload
  long_mid = long_changed a c name (record { live = true; payload = b.payload }) put listed.long (listed.long name b is)

  own_class : class_of (length b.payload) ≡ class
  own_class = ap (λ (x : Block). class_of (length x.payload)) block_is ∙ node.of_class

  linked_mid : (i : ℕ) → i < 8 → (i ≡ class → ⊥) → IsLinked c i none (listed.lists i)
  linked_mid i lt other = frame a c name i none (listed.lists i) (listed.linked i lt) put.others (λ x at free here. other (sym here ∙ (ap (λ (y : Block). class_of (length y.payload)) (same_block a name x b at is) ∙ own_class)))

  tail_mid : IsLinked c class name rest
  tail_mid = behind a c name class name b rest tail (record { block = node.block; is = node.is; free = node.free }) put.others is (λ f. not_found a none f.block listed.none_is (subst (λ (k : ℕ). block_of a k ≡ Some f.block) (ap (λ (x : Block). before_in x.payload) block_is ∙ node.before_is) f.is))

  linked_other : (i : ℕ) → i < 8 → (i ≡ class → ⊥) → IsLinked d i none (listed.lists i)
  linked_other i lt other = frame c d next i none (listed.lists i) (linked_mid i lt other) sets.others (λ x at free here. other (sym here ∙ head_class c class name next rest tail_mid next_first none_mid x at))

  not_free_now : IsFree c name → ⊥
  not_free_now f = live_not_free f.block (ap (λ (y : Block). y.live) (same_block c name f.block (record { live = true; payload = b.payload }) f.is put.there)) f.free

  linked_own : IsLinked d class none rest
  linked_own = rehead c d class name none rest tail_mid (subst (λ (k : ℕ). SetsBefore c d k none) next_first sets) not_free_now long_mid (omega arith)

  linked_all : (i : ℕ) → i < 8 → IsLinked d i none (with_list listed.lists class rest i)
  linked_all i lt = elim (cases_eq i class) as (λ _. IsLinked d i none (with_list listed.lists class rest i)) [
    | inl e ↦ subst (λ (list : List ℕ). IsLinked d i none list) (sym (with_list_same listed.lists class rest i e)) (subst (λ (k : ℕ). IsLinked d k none rest) (sym e) linked_own)
    | inr other ↦ subst (λ (list : List ℕ). IsLinked d i none list) (sym (with_list_other listed.lists class rest i other)) (linked_other i lt other)
  ]

  all_there : (n : ℕ) (x : Block) → block_of d n ≡ Some x → x.live ≡ false → IsIn (with_list listed.lists class rest (class_of (length x.payload))) n
  all_there n x at free =
      let was : Was c n x = was_some c d next none sets long_mid n x at in
      let away : n ≡ name → ⊥ = λ e. not_free_now (record { block = was.block; is = subst (λ (k : ℕ). block_of c k ≡ Some was.block) e was.is; free = was.live ∙ free }) in
      let before : IsIn (listed.lists (class_of (length was.block.payload))) n = listed.all n was.block (sym (put.others n away) ∙ was.is) (was.live ∙ free) in
      let there : IsIn (listed.lists (class_of (length x.payload))) n = subst (λ (k : ℕ). IsIn (listed.lists (class_of k)) n) was.len before in
      elim (cases_eq (class_of (length x.payload)) class) as (λ _. IsIn (with_list listed.lists class rest (class_of (length x.payload))) n) [
        | inl own ↦ subst (λ (list : List ℕ). IsIn list n) (sym (with_list_same listed.lists class rest (class_of (length x.payload)) own)) (in_rest (listed.lists class) rest name n list_is away (subst (λ (k : ℕ). IsIn (listed.lists k) n) own there))
        | inr other ↦ subst (λ (list : List ℕ). IsIn list n) (sym (with_list_other listed.lists class rest (class_of (length x.payload)) other)) there
      ]

  pub popped : IsListed d (set heads class next)
  popped = record {
    count = length-set heads class next ∙ listed.count;
    lists = with_list listed.lists class rest;
    linked = linked_all;
    first = same_heads a heads listed class next rest next_first;
    all = all_there;
    long = λ n x at. long_was c n x long_mid (was_some c d next none sets long_mid n x at);
    none_is = sets.none_is ∙ none_mid;
    held = sets.held ∙ (put.held ∙ (listed.held ∙ ap (λ (n : ℕ). 4096 * n) (sym (sets.many ∙ put.many))));
  }
