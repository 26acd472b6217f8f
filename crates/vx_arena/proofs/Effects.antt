-- What the steps on lists change for live blocks.
use Rattle.std.proofs.Common.{inl, inr, ◌≡◌, ℕ, ◌+◌, ◌≤◌, Bool, true, false, Option, Some, None, List, length, refl, sym, ap, ◌∙◌, arith, cond}
use Rattle.std.proofs.lemmas.Bool.{cases_eq}
use Rattle.vx_arena.specs.Block.{Block}
use Rattle.vx_arena.specs.Chunks.{Chunks}
use Rattle.vx_arena.specs.Names.{block_of, named, IsNamed, live_in, live_at, len_in, len_at, one_if, lives, Changes}
use Rattle.vx_arena.specs.Free.{with_before, SetsBefore, IsLive}
use Rattle.vx_arena.proofs.Linking.{named_from, found_named, length-with_before}

pub live_some : (chunks : Chunks) (name : ℕ) (b : Block) → block_of chunks name ≡ Some b → b.live ≡ true → live_at chunks name ≡ Some b.payload
unfolding live_at
live_some chunks name b is live = ap live_in is ∙ ap (λ (t : Bool). cond t (Some b.payload) None) live

pub live_none : (chunks : Chunks) (name : ℕ) (b : Block) → block_of chunks name ≡ Some b → b.live ≡ false → live_at chunks name ≡ None
unfolding live_at
live_none chunks name b is free = ap live_in is ∙ ap (λ (t : Bool). cond t (Some b.payload) None) free

pub live_gone : (chunks : Chunks) (name : ℕ) → block_of chunks name ≡ None → live_at chunks name ≡ None
unfolding live_at
live_gone chunks name is = ap live_in is

-- a live block, with its payload
pub record Living (chunks : Chunks) (name : ℕ) (payload : List ℕ) : Type 0 where
  pub block : Block
  pub is : block_of chunks name ≡ Some block
  pub live : block.live ≡ true
  pub payload_is : block.payload ≡ payload

none_some : {A : Type 0} {b : A} {X : Type 0} → None ≡ Some b → X
none_some e = absurd (cc)

same_some : {A : Type 0} {a b : A} → Some a ≡ Some b → a ≡ b
same_some e = cc

living_in : (chunks : Chunks) (name : ℕ) (payload : List ℕ) (o : Option Block) → block_of chunks name ≡ o → live_in o ≡ Some payload → Living chunks name payload
living_in chunks name payload None is live = none_some live
living_in chunks name payload (Some b) is live = flagged b.live refl live where
  flagged : (t : Bool) → b.live ≡ t → cond t (Some b.payload) None ≡ Some payload → Living chunks name payload
  flagged true e live = record { block = b; is = is; live = e; payload_is = same_some live }
  flagged false e live = none_some live

pub living : (chunks : Chunks) (name : ℕ) (payload : List ℕ) → live_at chunks name ≡ Some payload → Living chunks name payload
unfolding live_at
living chunks name payload live = living_in chunks name payload (block_of chunks name) refl live

pub is_live : (chunks : Chunks) (name : ℕ) (b : Block) → block_of chunks name ≡ Some b → b.live ≡ true → IsLive chunks name
is_live chunks name b is live = live_some chunks name b is live ∙ ap (λ (x : Block). Some x.payload) (sym (found_named chunks name b is))

pub live_again : (chunks : Chunks) (name : ℕ) (payload : List ℕ) → live_at chunks name ≡ Some payload → IsLive chunks name
live_again chunks name payload live = let lv : Living chunks name payload = living chunks name payload live in is_live chunks name lv.block lv.is lv.live

pub same_live : (c d : Chunks) (n : ℕ) → block_of d n ≡ block_of c n → live_at d n ≡ live_at c n
unfolding live_at
same_live c d n same = ap live_in same

pub same_len : (c d : Chunks) (n : ℕ) → block_of d n ≡ block_of c n → len_at d n ≡ len_at c n
unfolding len_at
same_len c d n same = ap len_in same

pub len_some : (chunks : Chunks) (name : ℕ) (b : Block) → block_of chunks name ≡ Some b → len_at chunks name ≡ Some (length b.payload)
unfolding len_at
len_some chunks name b is = ap len_in is

pub len_none : (chunks : Chunks) (name : ℕ) → block_of chunks name ≡ None → len_at chunks name ≡ None
unfolding len_at
len_none chunks name is = ap len_in is

pub changed_len : (a c : Chunks) (name : ℕ) (b new : Block) → Changes a c name new → block_of a name ≡ Some b → length new.payload ≡ length b.payload → (n : ℕ) → len_at c n ≡ len_at a n
changed_len a c name b new put is same n = elim (cases_eq n name) as (λ _. len_at c n ≡ len_at a n) [
  | inl e ↦ ap (len_at c) e ∙ (len_some c name new put.there ∙ (ap (λ (k : ℕ). Some k) same ∙ (sym (len_some a name b is) ∙ ap (len_at a) (sym e))))
  | inr ne ↦ same_len a c n (put.others n ne)
]

-- a link that is set in a block that isn't live changes no live block
pub sets_live : (c d : Chunks) (x v : ℕ) → SetsBefore c d x v → ((b : Block) → block_of c x ≡ Some b → b.live ≡ false) → (n : ℕ) → live_at d n ≡ live_at c n
sets_live c d x v sets free n = elim (cases_eq n x) as (λ _. live_at d n ≡ live_at c n) [
  | inl e ↦ ap (live_at d) e ∙ (here (block_of c x) refl ∙ ap (live_at c) (sym e))
  | inr ne ↦ same_live c d n (sets.others n ne)
] where
  here : (o : Option Block) → block_of c x ≡ o → live_at d x ≡ live_at c x
  here None gone = live_gone d x (sets.gone gone) ∙ sym (live_gone c x gone)
  here (Some b) is = live_none d x (record { live = b.live; payload = with_before b.payload v }) (sets.there b is) (free b is) ∙ sym (live_none c x b is (free b is))

pub sets_len : (c d : Chunks) (x v : ℕ) → SetsBefore c d x v → ((n : ℕ) (b : Block) → block_of c n ≡ Some b → 16 ≤ length b.payload) → (n : ℕ) → len_at d n ≡ len_at c n
sets_len c d x v sets long n = elim (cases_eq n x) as (λ _. len_at d n ≡ len_at c n) [
  | inl e ↦ ap (len_at d) e ∙ (here (block_of c x) refl ∙ ap (len_at c) (sym e))
  | inr ne ↦ same_len c d n (sets.others n ne)
] where
  here : (o : Option Block) → block_of c x ≡ o → len_at d x ≡ len_at c x
  here None gone = len_none d x (sets.gone gone) ∙ sym (len_none c x gone)
  here (Some b) is = len_some d x (record { live = b.live; payload = with_before b.payload v }) (sets.there b is) ∙ (ap (λ (k : ℕ). Some k) (length-with_before b.payload v (long x b is)) ∙ sym (len_some c x b is))

-- two changes of one block
pub changed_twice : (a m c : Chunks) (name : ℕ) (x y : Block) → Changes a m name x → Changes m c name y → Changes a c name y
changed_twice a m c name x y one two =
    let mid : one_if (named m name).live ≡ one_if x.live = ap (λ (b : Block). one_if b.live) (found_named m name x one.there) in
    let first : lives m + one_if (named a name).live ≡ lives a + one_if x.live = one.count in
    let second : lives c + one_if (named m name).live ≡ lives m + one_if y.live = two.count in
    record {
      there = two.there;
      others = λ n ne. two.others n ne ∙ one.others n ne;
      count = omega (arith, mid, first, second);
      held = two.held ∙ one.held;
      many = two.many ∙ one.many;
    }

pub named_moved : (a c : Chunks) (n : ℕ) → block_of c n ≡ block_of a n → IsNamed a n → IsNamed c n
named_moved a c n same there = named_from c n (named a n) (same ∙ there)

pub long_named : (c : Chunks) (n : ℕ) → ((n : ℕ) (b : Block) → block_of c n ≡ Some b → 16 ≤ length b.payload) → IsNamed c n → 16 ≤ length (named c n).payload
long_named c n long there = long n (named c n) there
