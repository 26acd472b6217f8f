-- A block that was live goes to the front of the list of its class.
use Rattle.std.proofs.Common.{inl, inr, ◌≡◌, ℕ, ◌*◌, ◌^◌, ◌<◌, ◌≤◌, true, false, eqb, cond, Some, None, List, [], ◌∷◌, length, get_or, set, refl, sym, ap, ◌∙◌, subst, arith}
use Rattle.std.proofs.lemmas.Bool.{cases_eq, eq-eqb, ne_eqb, both_ways}
use Rattle.std.proofs.lemmas.List.{get_or-set_same, get_or-set_other, length-set}
use Rattle.vx_arena.specs.Block.{Block}
use Rattle.vx_arena.specs.Chunks.{Chunks}
use Rattle.vx_arena.specs.Names.{none, block_of, Changes}
use Rattle.vx_arena.specs.Free.{class_of, with_links, Node, first_of, IsLinked, IsIn, IsListed, SetsBefore}
use Rattle.vx_arena.proofs.Classes.{class_below}
use Rattle.vx_arena.proofs.Linking.{not_found, next_of_links, before_of_links, length-with_links}
use Rattle.vx_arena.proofs.Relinking.{IsFree, same_block, frame, rehead, head_class, Was, was_some}

abbrev pub with_list : (ℕ → List ℕ) → ℕ → List ℕ → ℕ → List ℕ
with_list lists class list = λ i. cond (eqb i class) list (lists i)

pub with_list_same : (lists : ℕ → List ℕ) (class : ℕ) (list : List ℕ) (i : ℕ) → i ≡ class → with_list lists class list i ≡ list
with_list_same lists class list i e = rw (eq-eqb i class e) refl

pub with_list_other : (lists : ℕ → List ℕ) (class : ℕ) (list : List ℕ) (i : ℕ) → (i ≡ class → ⊥) → with_list lists class list i ≡ lists i
with_list_other lists class list i ne = rw (ne_eqb i class ne) refl

-- the heads and the lists, where those of one class changed
pub same_heads : (chunks : Chunks) (heads : List ℕ) (listed : IsListed chunks heads) (class value : ℕ) (list : List ℕ) → value ≡ first_of list → (i : ℕ) → i < 8 → get_or (set heads class value) i 0 ≡ first_of (with_list listed.lists class list i)
same_heads chunks heads listed class value list is i lt = elim (cases_eq i class) as (λ _. get_or (set heads class value) i 0 ≡ first_of (with_list listed.lists class list i)) [
  | inl e ↦
      let count : length heads ≡ 8 = listed.count in
      let within : class < length heads = omega (arith, count, lt, e) in
      ap (λ (k : ℕ). get_or (set heads class value) k 0) e ∙ (get_or-set_same heads class value 0 within ∙ (is ∙ ap first_of (sym (with_list_same listed.lists class list i e))))
  | inr ne ↦ get_or-set_other heads class i value 0 ne ∙ (listed.first i lt ∙ ap first_of (sym (with_list_other listed.lists class list i ne)))
]

pub not_free_none : (c : Chunks) → block_of c none ≡ None → IsFree c none → ⊥
not_free_none c gone f = not_found c none f.block gone f.is

pub live_not_free : (b : Block) → b.live ≡ true → b.live ≡ false → ⊥
live_not_free b live free = both_ways b.live free live

pub not_head : (a : Chunks) (class before name : ℕ) (list : List ℕ) (b : Block) → IsLinked a class before list → block_of a name ≡ Some b → b.live ≡ true → block_of a none ≡ None → name ≡ first_of list → ⊥
not_head a class before name [] b linked is live gone e = not_found a none b gone (subst (λ (k : ℕ). block_of a k ≡ Some b) e is)
not_head a class before name (m ∷ rest) b linked is live gone e =
    let node : Node a class before m (first_of rest) = linked.0 in
    let one : b ≡ node.block = same_block a m b node.block (subst (λ (k : ℕ). block_of a k ≡ Some b) e is) node.is in
    live_not_free b live (ap (λ (x : Block). x.live) one ∙ node.free)

pub long_changed : (a c : Chunks) (name : ℕ) (new : Block) → Changes a c name new → ((n : ℕ) (b : Block) → block_of a n ≡ Some b → 16 ≤ length b.payload) → 16 ≤ length new.payload → (n : ℕ) (b : Block) → block_of c n ≡ Some b → 16 ≤ length b.payload
long_changed a c name new put long enough n b is = elim (cases_eq n name) as (λ _. 16 ≤ length b.payload) [
  | inl e ↦ subst (λ (x : Block). 16 ≤ length x.payload) (same_block c name new b put.there (subst (λ (k : ℕ). block_of c k ≡ Some b) e is)) enough
  | inr ne ↦ long n b (sym (put.others n ne) ∙ is)
]

pub long_was : (c : Chunks) (n : ℕ) (b : Block) → ((n : ℕ) (b : Block) → block_of c n ≡ Some b → 16 ≤ length b.payload) → Was c n b → 16 ≤ length b.payload
long_was c n b long was = let some : 16 ≤ length was.block.payload = long n was.block was.is in let same : length was.block.payload ≡ length b.payload = was.len in omega (arith, some, same)

module _ (a c d : Chunks) (heads : List ℕ) (name class next : ℕ) (b : Block) (listed : IsListed a heads) (is : block_of a name ≡ Some b) (live : b.live ≡ true) (fits : name < 2 ^ 64) (next_fits : next < 2 ^ 64) (class_is : class ≡ class_of (length b.payload)) (next_is : next ≡ get_or heads class 0) (put : Changes a c name (record { live = false; payload = with_links b.payload next none })) (sets : SetsBefore c d next name) where
  lt8 : class < 8
  lt8 = let below : class_of (length b.payload) < 8 = class_below (length b.payload) in omega (arith, below, class_is)

  enough : 16 ≤ length b.payload
  enough = listed.long name b is

  new_len : length (with_links b.payload next none) ≡ length b.payload
  new_len = length-with_links b.payload next none enough

  next_first : next ≡ first_of (listed.lists class)
  next_first = next_is ∙ listed.first class lt8

  name_not_none : name ≡ none → ⊥
  name_not_none e = not_found a none b listed.none_is (subst (λ (k : ℕ). block_of a k ≡ Some b) e is)

  name_not_next : name ≡ next → ⊥
  name_not_next e = not_head a class none name (listed.lists class) b (listed.linked class lt8) is live listed.none_is (e ∙ next_first)

  none_mid : block_of c none ≡ None
  none_mid = put.others none (λ e. name_not_none (sym e)) ∙ listed.none_is

  long_mid : (n : ℕ) (x : Block) → block_of c n ≡ Some x → 16 ≤ length x.payload
  long_mid = long_changed a c name (record { live = false; payload = with_links b.payload next none }) put listed.long (let same : length (with_links b.payload next none) ≡ length b.payload = new_len in let some : 16 ≤ length b.payload = enough in omega (arith, same, some))

  linked_mid : (i : ℕ) → i < 8 → IsLinked c i none (listed.lists i)
  linked_mid i lt = frame a c name i none (listed.lists i) (listed.linked i lt) put.others (λ x at free _. live_not_free b live (ap (λ (y : Block). y.live) (same_block a name b x is at) ∙ free))

  linked_other : (i : ℕ) → i < 8 → (i ≡ class → ⊥) → IsLinked d i none (listed.lists i)
  linked_other i lt ne = frame c d next i none (listed.lists i) (linked_mid i lt) sets.others (λ x at free here. ne (sym here ∙ head_class c class none next (listed.lists class) (linked_mid class lt8) next_first none_mid x at))

  linked_own : IsLinked d class none (name ∷ listed.lists class)
  linked_own = (
    record {
      block = record { live = false; payload = with_links b.payload next none };
      is = sets.others name name_not_next ∙ put.there;
      free = refl;
      of_class = ap class_of new_len ∙ sym class_is;
      next_is = next_of_links b.payload next none next_fits ∙ next_first;
      before_is = before_of_links b.payload next none (omega arith);
    },
    rehead c d class none name (listed.lists class) (linked_mid class lt8) (subst (λ (k : ℕ). SetsBefore c d k name) next_first sets) (not_free_none c none_mid) long_mid fits,
  )

  all_there : (n : ℕ) (x : Block) → block_of d n ≡ Some x → x.live ≡ false → IsIn (with_list listed.lists class (name ∷ listed.lists class) (class_of (length x.payload))) n
  all_there n x at free =
      let was : Was c n x = was_some c d next name sets long_mid n x at in
      elim (cases_eq n name) as (λ _. IsIn (with_list listed.lists class (name ∷ listed.lists class) (class_of (length x.payload))) n) [
        | inl e ↦
            let one : record { live = false; payload = with_links b.payload next none } ≡ was.block = same_block c name (record { live = false; payload = with_links b.payload next none }) was.block put.there (subst (λ (k : ℕ). block_of c k ≡ Some was.block) e was.is) in
            let own : class_of (length x.payload) ≡ class = ap class_of (sym was.len ∙ (sym (ap (λ (y : Block). length y.payload) one) ∙ new_len)) ∙ sym class_is in
            subst (λ (list : List ℕ). IsIn list n) (sym (with_list_same listed.lists class (name ∷ listed.lists class) (class_of (length x.payload)) own)) (inl e)
        | inr ne ↦
            let before : IsIn (listed.lists (class_of (length was.block.payload))) n = listed.all n was.block (sym (put.others n ne) ∙ was.is) (was.live ∙ free) in
            let there : IsIn (listed.lists (class_of (length x.payload))) n = subst (λ (k : ℕ). IsIn (listed.lists (class_of k)) n) was.len before in
            elim (cases_eq (class_of (length x.payload)) class) as (λ _. IsIn (with_list listed.lists class (name ∷ listed.lists class) (class_of (length x.payload))) n) [
              | inl own ↦ subst (λ (list : List ℕ). IsIn list n) (sym (with_list_same listed.lists class (name ∷ listed.lists class) (class_of (length x.payload)) own)) (inr (subst (λ (k : ℕ). IsIn (listed.lists k) n) own there))
              | inr other ↦ subst (λ (list : List ℕ). IsIn list n) (sym (with_list_other listed.lists class (name ∷ listed.lists class) (class_of (length x.payload)) other)) there
            ]
      ]

  linked_all : (i : ℕ) → i < 8 → IsLinked d i none (with_list listed.lists class (name ∷ listed.lists class) i)
  linked_all i lt = elim (cases_eq i class) as (λ _. IsLinked d i none (with_list listed.lists class (name ∷ listed.lists class) i)) [
    | inl e ↦ subst (λ (list : List ℕ). IsLinked d i none list) (sym (with_list_same listed.lists class (name ∷ listed.lists class) i e)) (subst (λ (k : ℕ). IsLinked d k none (name ∷ listed.lists class)) (sym e) linked_own)
    | inr ne ↦ subst (λ (list : List ℕ). IsLinked d i none list) (sym (with_list_other listed.lists class (name ∷ listed.lists class) i ne)) (linked_other i lt ne)
  ]

  pub pushed : IsListed d (set heads class name)
  pushed = record {
    count = length-set heads class name ∙ listed.count;
    lists = with_list listed.lists class (name ∷ listed.lists class);
    linked = linked_all;
    first = same_heads a heads listed class name (name ∷ listed.lists class) refl;
    all = all_there;
    long = λ n x at. long_was c n x long_mid (was_some c d next name sets long_mid n x at);
    none_is = sets.none_is ∙ none_mid;
    held = sets.held ∙ (put.held ∙ (listed.held ∙ ap (λ (n : ℕ). 4096 * n) (sym (sets.many ∙ put.many))));
  }
