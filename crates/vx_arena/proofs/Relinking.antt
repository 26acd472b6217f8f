-- Lists of free blocks, after blocks changed.
use Rattle.std.proofs.Common.{inl, inr, ◌≡◌, ◌≢◌, ℕ, ◌^◌, ◌<◌, ◌≤◌, false, Option, Some, None, List, [], ◌∷◌, length, refl, sym, ap, ◌∙◌, subst}
use Rattle.std.proofs.lemmas.Bool.{cases_eq}
use Rattle.vx_arena.specs.Block.{Block}
use Rattle.vx_arena.specs.Chunks.{Chunks}
use Rattle.vx_arena.specs.Names.{none, block_of}
use Rattle.vx_arena.specs.Free.{class_of, before_in, with_before, Node, first_of, IsLinked, SetsBefore}
use Rattle.vx_arena.proofs.Linking.{not_found, next_kept, before_of_before, length-with_before}

-- a free block stands there
pub record IsFree (chunks : Chunks) (name : ℕ) : Type 0 where
  pub block : Block
  pub is : block_of chunks name ≡ Some block
  pub free : block.live ≡ false

pub same_block : (chunks : Chunks) (name : ℕ) (b c : Block) → block_of chunks name ≡ Some b → block_of chunks name ≡ Some c → b ≡ c
same_block chunks name b c one two = cc

moved : (c d : Chunks) (class before n next : ℕ) → Node c class before n next → block_of d n ≡ block_of c n → Node d class before n next
moved c d class before n next node same = record { block = node.block; is = same ∙ node.is; free = node.free; of_class = node.of_class; next_is = node.next_is; before_is = node.before_is }

-- a block that is none of them may change
pub frame : (c d : Chunks) (x class before : ℕ) (list : List ℕ) → IsLinked c class before list → ((n : ℕ) → (n ≡ x → ⊥) → block_of d n ≡ block_of c n) → ((b : Block) → block_of c x ≡ Some b → b.live ≡ false → class_of (length b.payload) ≡ class → ⊥) → IsLinked d class before list
frame c d x class before [] linked others apart = tt
frame c d x class before (n ∷ rest) linked others apart =
    let node : Node c class before n (first_of rest) = linked.0 in
    let ne : n ≡ x → ⊥ = λ e. apart node.block (subst (λ (k : ℕ). block_of c k ≡ Some node.block) e node.is) node.free node.of_class in
    (moved c d class before n (first_of rest) node (others n ne), frame c d x class n rest linked.1 others apart)

-- nor is one of them a block that stands behind none that is free
pub behind : (c d : Chunks) (x class before : ℕ) (bx : Block) (list : List ℕ) → IsLinked c class before list → IsFree c before → ((n : ℕ) → (n ≡ x → ⊥) → block_of d n ≡ block_of c n) → block_of c x ≡ Some bx → (IsFree c (before_in bx.payload) → ⊥) → IsLinked d class before list
behind c d x class before bx [] linked free others is first = tt
behind c d x class before bx (n ∷ rest) linked free others is first =
    let node : Node c class before n (first_of rest) = linked.0 in
    let ne : n ≡ x → ⊥ = λ e.
    (let here : block_of c n ≡ Some bx = subst (λ (k : ℕ). block_of c k ≡ Some bx) (sym e) is in
    let one : bx ≡ node.block = same_block c n bx node.block here node.is in
    let link : before_in bx.payload ≡ before = ap (λ (b : Block). before_in b.payload) one ∙ node.before_is in
    first (subst (λ (k : ℕ). IsFree c k) (sym link) free)) in
    (moved c d class before n (first_of rest) node (others n ne), behind c d x class n bx rest linked.1 (record { block = node.block; is = node.is; free = node.free }) others is first)

-- the first of a list is set behind another
pub rehead : (c d : Chunks) (class p q : ℕ) (list : List ℕ) → IsLinked c class p list → SetsBefore c d (first_of list) q → (IsFree c p → ⊥) → ((n : ℕ) (b : Block) → block_of c n ≡ Some b → 16 ≤ length b.payload) → q < 2 ^ 64 → IsLinked d class q list
rehead c d class p q [] linked sets first long fits = tt
rehead c d class p q (m ∷ rest) linked sets first long fits =
    let node : Node c class p m (first_of rest) = linked.0 in
    let b : Block = node.block in
    let enough : 16 ≤ length b.payload = long m b node.is in
    let same : length (with_before b.payload q) ≡ length b.payload = length-with_before b.payload q enough in (
      record {
        block = record { live = b.live; payload = with_before b.payload q };
        is = sets.there b node.is;
        free = node.free;
        of_class = ap class_of same ∙ node.of_class;
        next_is = next_kept b.payload q enough ∙ node.next_is;
        before_is = before_of_before b.payload q enough fits;
      },
      behind c d m class m b rest linked.1 (record { block = b; is = node.is; free = node.free }) sets.others node.is (λ f. first (subst (λ (k : ℕ). IsFree c k) node.before_is f)),
    )

-- the first of a list is of its class
pub head_class : (c : Chunks) (class before next : ℕ) (list : List ℕ) → IsLinked c class before list → next ≡ first_of list → block_of c none ≡ None → (b : Block) → block_of c next ≡ Some b → class_of (length b.payload) ≡ class
head_class c class before next [] linked is gone b at = absurd (not_found c none b gone (subst (λ (k : ℕ). block_of c k ≡ Some b) is at))
head_class c class before next (m ∷ rest) linked is gone b at =
    let node : Node c class before m (first_of rest) = linked.0 in
    let one : b ≡ node.block = same_block c m b node.block (subst (λ (k : ℕ). block_of c k ≡ Some b) is at) node.is in
    ap (λ (x : Block). class_of (length x.payload)) one ∙ node.of_class

-- a list with a first that is a block
pub record Split (list : List ℕ) (name : ℕ) : Type 0 where
  pub rest : List ℕ
  pub is : list ≡ name ∷ rest

pub split_list : (list : List ℕ) (name : ℕ) → name ≡ first_of list → name ≢ none → Split list name
split_list [] name is ne = absurd (ne is)
split_list (m ∷ rest) name is ne = record { rest = rest; is = ap (λ (k : ℕ). k ∷ rest) (sym is) }

-- what a block was before a link was set
pub record Was (c : Chunks) (n : ℕ) (b : Block) : Type 0 where
  pub block : Block
  pub is : block_of c n ≡ Some block
  pub live : block.live ≡ b.live
  pub len : length block.payload ≡ length b.payload

pub was_some : (c d : Chunks) (x v : ℕ) → SetsBefore c d x v → ((n : ℕ) (b : Block) → block_of c n ≡ Some b → 16 ≤ length b.payload) → (n : ℕ) (b : Block) → block_of d n ≡ Some b → Was c n b
was_some c d x v sets long n b is = elim (cases_eq n x) as (λ _. Was c n b) [
  | inl e ↦ here (block_of c x) refl e
  | inr ne ↦ record { block = b; is = sym (sets.others n ne) ∙ is; live = refl; len = refl }
] where
  here : (o : Option Block) → block_of c x ≡ o → n ≡ x → Was c n b
  here None gone e = absurd (not_found d n b (ap (block_of d) e ∙ sets.gone gone) is)
  here (Some b0) at e =
      let now : block_of d n ≡ Some (record { live = b0.live; payload = with_before b0.payload v }) = ap (block_of d) e ∙ sets.there b0 at in
      let one : record { live = b0.live; payload = with_before b0.payload v } ≡ b = same_block d n (record { live = b0.live; payload = with_before b0.payload v }) b now is in
      record {
        block = b0;
        is = ap (block_of c) e ∙ at;
        live = ap (λ (y : Block). y.live) one;
        len = sym (length-with_before b0.payload v (long x b0 at)) ∙ ap (λ (y : Block). length y.payload) one;
      }
