-- The lists of free blocks, where no free block changes; and what such steps change for live blocks.
use Rattle.std.proofs.Common.{inl, inr, ◌≡◌, ℕ, ◌+◌, ◌-◌, ◌*◌, ◌≤◌, true, false, Some, None, List, [], ◌∷◌, length, take, drop, replicate, refl, sym, ap, ◌∙◌, subst, arith}
use Rattle.std.proofs.lemmas.Bool.{cases_eq}
use Rattle.std.proofs.lemmas.List.{length-take-le, length-drop, length-replicate}
use Rattle.vx_raw.specs.Region.{written}
use Rattle.vx_arena.specs.Block.{Block}
use Rattle.vx_arena.specs.Chunks.{Chunks, held_by}
use Rattle.vx_arena.specs.Names.{none, block_of, named, IsNamed, one_if, lives, Changes}
use Rattle.vx_arena.specs.Free.{Node, first_of, IsLinked, IsListed, IsLive, Splits, Adds, Grows, Halves, Writes}
use Rattle.vx_arena.proofs.Heads.{length-written}
use Rattle.vx_arena.proofs.Linking.{not_found, named_from, found_named}
use Rattle.vx_arena.proofs.Relinking.{same_block}
use Rattle.vx_arena.proofs.Pushing.{live_not_free, long_changed}
use Rattle.vx_arena.proofs.Effects.{live_some, live_gone, len_none, Living, living, is_live, same_live, same_len, changed_len, long_named}
use Rattle.vx_arena.proofs.Steps.{named_live}

abbrev Kept : Chunks → Chunks → Type 0
Kept a c = (n : ℕ) (b : Block) → block_of a n ≡ Some b → b.live ≡ false → block_of c n ≡ Some b

kept_links : (a c : Chunks) (class before : ℕ) (list : List ℕ) → Kept a c → IsLinked a class before list → IsLinked c class before list
kept_links a c class before [] kept linked = tt
kept_links a c class before (n ∷ rest) kept linked =
    let node : Node a class before n (first_of rest) = linked.0 in
    (record { block = node.block; is = kept n node.block node.is node.free; free = node.free; of_class = node.of_class; next_is = node.next_is; before_is = node.before_is }, kept_links a c class n rest kept linked.1)

-- where the free blocks are the same, the lists are
pub relisted : (a c : Chunks) (heads : List ℕ) → IsListed a heads → Kept a c → Kept c a → ((n : ℕ) (b : Block) → block_of c n ≡ Some b → 16 ≤ length b.payload) → block_of c none ≡ None → held_by c ≡ 4096 * length c → IsListed c heads
relisted a c heads listed kept back long gone held = record {
  count = listed.count;
  lists = listed.lists;
  linked = λ i lt. kept_links a c i none (listed.lists i) kept (listed.linked i lt);
  first = listed.first;
  all = λ n b is free. listed.all n b (back n b is free) free;
  long = long;
  none_is = gone;
  held = held;
}

-- the live block that has this name
pub live_flag : (a : Chunks) (name : ℕ) → IsLive a name → (named a name).live ≡ true
live_flag a name live =
    let lv : Living a name (named a name).payload = living a name (named a name).payload live in
    ap (λ (b : Block). b.live) (found_named a name lv.block lv.is) ∙ lv.live

live_apart : (a : Chunks) (n m : ℕ) (b x : Block) → block_of a n ≡ Some b → b.live ≡ false → block_of a m ≡ Some x → x.live ≡ true → n ≡ m → ⊥
live_apart a n m b x is free at live e = live_not_free x live (ap (λ (y : Block). y.live) (same_block a m x b at (subst (λ (k : ℕ). block_of a k ≡ Some b) e is)) ∙ free)

pub live_some_name : (a : Chunks) (heads : List ℕ) (name : ℕ) → IsListed a heads → IsLive a name → name ≡ none → ⊥
live_some_name a heads name listed live e = not_found a name (named a name) (subst (λ (k : ℕ). block_of a k ≡ None) (sym e) listed.none_is) (named_live a name live)

-- a live block's payload is written
module _ (a c : Chunks) (heads : List ℕ) (name to : ℕ) (from : List ℕ) (listed : IsListed a heads) (live : IsLive a name) (inside : to + length from ≤ length (named a name).payload) (put : Changes a c name (record { live = (named a name).live; payload = written (named a name).payload to from })) where
  new : Block
  new = record { live = (named a name).live; payload = written (named a name).payload to from }

  same_length : length (written (named a name).payload to from) ≡ length (named a name).payload
  same_length = length-written (named a name).payload to from inside

  long_written : (n : ℕ) (b : Block) → block_of c n ≡ Some b → 16 ≤ length b.payload
  long_written = long_changed a c name (record { live = (named a name).live; payload = written (named a name).payload to from }) put listed.long (let long : 16 ≤ length (named a name).payload = long_named a name listed.long (named_live a name live) in let same : length (written (named a name).payload to from) ≡ length (named a name).payload = same_length in omega (arith, long, same))

  kept_written : Kept a c
  kept_written n b is free = put.others n (live_apart a n name b (named a name) is free (named_live a name live) (live_flag a name live)) ∙ is

  back_written : Kept c a
  back_written n b is free = sym (put.others n (live_apart c n name b (record { live = (named a name).live; payload = written (named a name).payload to from }) is free put.there (live_flag a name live))) ∙ is

  none_apart : none ≡ name → ⊥
  none_apart e = not_found a name (named a name) (subst (λ (k : ℕ). block_of a k ≡ None) e listed.none_is) (named_live a name live)

  pub written_listed : IsListed c heads
  written_listed = relisted a c heads listed kept_written back_written long_written (put.others none none_apart ∙ listed.none_is) (put.held ∙ (listed.held ∙ ap (λ (n : ℕ). 4096 * n) (sym put.many)))

  pub written_writes : Writes a c name (written (named a name).payload to from)
  written_writes =
      let counted : lives c + one_if (named a name).live ≡ lives a + one_if (named a name).live = put.count in
      record {
        now = live_some c name (record { live = (named a name).live; payload = written (named a name).payload to from }) put.there (live_flag a name live);
        others = λ n ne. same_live a c n (put.others n ne);
        lens = changed_len a c name (named a name) (record { live = (named a name).live; payload = written (named a name).payload to from }) put (named_live a name live) same_length;
        count = omega (arith, counted);
        held = put.held;
      }

-- a new chunk whose one block is live
module _ (a m c : Chunks) (heads : List ℕ) (name : ℕ) (listed : IsListed a heads) (added : Adds a m name) (marked : Changes m c name (record { live = true; payload = (named m name).payload })) where
  pub added_named : IsNamed m name
  added_named = named_from m name (record { live = false; payload = replicate 4088 0 }) added.there

  payload_is : (named m name).payload ≡ replicate 4088 0
  payload_is = ap (λ (b : Block). b.payload) (found_named m name (record { live = false; payload = replicate 4088 0 }) added.there)

  whole : length (named m name).payload ≡ 4088
  whole = ap length payload_is ∙ length-replicate {A = ℕ} 4088 0

  others_grown : (n : ℕ) → (n ≡ name → ⊥) → block_of c n ≡ block_of a n
  others_grown n ne = marked.others n ne ∙ added.others n ne

  kept_grown : Kept a c
  kept_grown n b is free = others_grown n (λ e. not_found a name b added.gone (subst (λ (k : ℕ). block_of a k ≡ Some b) e is)) ∙ is

  back_grown : Kept c a
  back_grown n b is free = sym (others_grown n (live_apart c n name b (record { live = true; payload = (named m name).payload }) is free marked.there refl)) ∙ is

  long_grown : (n : ℕ) (b : Block) → block_of c n ≡ Some b → 16 ≤ length b.payload
  long_grown n b is = elim (cases_eq n name) as (λ _. 16 ≤ length b.payload) [
    | inl e ↦
        let same : length (named m name).payload ≡ length b.payload = ap (λ (x : Block). length x.payload) (same_block c name (record { live = true; payload = (named m name).payload }) b marked.there (subst (λ (k : ℕ). block_of c k ≡ Some b) e is)) in
        let all : length (named m name).payload ≡ 4088 = whole in
        omega (arith, same, all)
    | inr ne ↦ listed.long n b (sym (others_grown n ne) ∙ is)
  ]

  pub grown_listed : IsListed c heads
  grown_listed =
      let held : held_by a ≡ 4096 * length a = listed.held in
      let one : held_by m ≡ held_by a + 4096 = added.held in
      let two : held_by c ≡ held_by m = marked.held in
      let three : length m ≡ length a + 1 = added.many in
      let four : length c ≡ length m = marked.many in
      relisted a c heads listed kept_grown back_grown long_grown (others_grown none (λ e. added.some (sym e)) ∙ listed.none_is) (omega (arith, held, one, two, three, four))

  pub grown : Grows a c name
  grown =
      let off : one_if (named m name).live ≡ 0 = ap (λ (b : Block). one_if b.live) (found_named m name (record { live = false; payload = replicate 4088 0 }) added.there) in
      let first : lives m ≡ lives a = added.count in
      let second : lives c + one_if (named m name).live ≡ lives m + 1 = marked.count in
      record {
        fresh = live_gone a name added.gone;
        new = len_none a name added.gone;
        live = is_live c name (record { live = true; payload = (named m name).payload }) marked.there refl;
        whole = ap (λ (b : Block). length b.payload) (found_named c name (record { live = true; payload = (named m name).payload }) marked.there) ∙ whole;
        others = λ n ne. same_live a c n (others_grown n ne);
        lens = λ n ne. same_len a c n (others_grown n ne);
        count = omega (arith, off, first, second);
        held = marked.held ∙ added.held;
      }

-- a live block is cut into two live ones
module _ (a m c : Chunks) (heads : List ℕ) (name rest len : ℕ) (listed : IsListed a heads) (live : IsLive a name) (least : 16 ≤ len) (inside : len + 24 ≤ length (named a name).payload) (split : Splits a m name rest len) (marked : Changes m c rest (record { live = true; payload = (named m rest).payload })) where
  pub rest_named : IsNamed m rest
  rest_named = named_from m rest (record { live = false; payload = drop (len + 8) (named a name).payload }) split.second

  rest_payload : (named m rest).payload ≡ drop (len + 8) (named a name).payload
  rest_payload = ap (λ (b : Block). b.payload) (found_named m rest (record { live = false; payload = drop (len + 8) (named a name).payload }) split.second)

  rest_long : length (named m rest).payload ≡ length (named a name).payload - (len + 8)
  rest_long = ap length rest_payload ∙ length-drop (len + 8) (named a name).payload

  name_apart : name ≡ rest → ⊥
  name_apart e = not_found a rest (named a name) split.gone (subst (λ (k : ℕ). block_of a k ≡ Some (named a name)) e (named_live a name live))

  first_now : block_of c name ≡ Some (record { live = (named a name).live; payload = take len (named a name).payload })
  first_now = marked.others name name_apart ∙ split.first

  first_long : length (take len (named a name).payload) ≡ len
  first_long = length-take-le len (named a name).payload (omega (arith, inside))

  others_halved : (n : ℕ) → (n ≡ name → ⊥) → (n ≡ rest → ⊥) → block_of c n ≡ block_of a n
  others_halved n ne far = marked.others n far ∙ split.others n ne far

  kept_halved : Kept a c
  kept_halved n b is free = others_halved n (live_apart a n name b (named a name) is free (named_live a name live) (live_flag a name live)) (λ e. not_found a rest b split.gone (subst (λ (k : ℕ). block_of a k ≡ Some b) e is)) ∙ is

  back_halved : Kept c a
  back_halved n b is free = sym (others_halved n (live_apart c n name b (record { live = (named a name).live; payload = take len (named a name).payload }) is free first_now (live_flag a name live)) (live_apart c n rest b (record { live = true; payload = (named m rest).payload }) is free marked.there refl)) ∙ is

  long_halved : (n : ℕ) (b : Block) → block_of c n ≡ Some b → 16 ≤ length b.payload
  long_halved n b is = elim (cases_eq n name) as (λ _. 16 ≤ length b.payload) [
    | inl e ↦
        let same : length (take len (named a name).payload) ≡ length b.payload = ap (λ (x : Block). length x.payload) (same_block c name (record { live = (named a name).live; payload = take len (named a name).payload }) b first_now (subst (λ (k : ℕ). block_of c k ≡ Some b) e is)) in
        let all : length (take len (named a name).payload) ≡ len = first_long in
        omega (arith, same, all, least)
    | inr ne ↦ elim (cases_eq n rest) as (λ _. 16 ≤ length b.payload) [
      | inl e ↦
          let same : length (named m rest).payload ≡ length b.payload = ap (λ (x : Block). length x.payload) (same_block c rest (record { live = true; payload = (named m rest).payload }) b marked.there (subst (λ (k : ℕ). block_of c k ≡ Some b) e is)) in
          let all : length (named m rest).payload ≡ length (named a name).payload - (len + 8) = rest_long in
          omega (arith, same, all, inside)
      | inr far ↦ listed.long n b (sym (others_halved n ne far) ∙ is)
    ]
  ]

  none_far : none ≡ name → ⊥
  none_far e = not_found a name (named a name) (subst (λ (k : ℕ). block_of a k ≡ None) e listed.none_is) (named_live a name live)

  pub halved_listed : IsListed c heads
  halved_listed = relisted a c heads listed kept_halved back_halved long_halved (others_halved none none_far (λ e. split.some (sym e)) ∙ listed.none_is) (marked.held ∙ (split.held ∙ (listed.held ∙ ap (λ (n : ℕ). 4096 * n) (sym (marked.many ∙ split.many)))))

  pub halved : Halves a c name rest len
  halved =
      let off : one_if (named m rest).live ≡ 0 = ap (λ (b : Block). one_if b.live) (found_named m rest (record { live = false; payload = drop (len + 8) (named a name).payload }) split.second) in
      let first : lives m ≡ lives a = split.count in
      let second : lives c + one_if (named m rest).live ≡ lives m + 1 = marked.count in
      record {
        fresh = live_gone a rest split.gone;
        new = len_none a rest split.gone;
        first = is_live c name (record { live = (named a name).live; payload = take len (named a name).payload }) first_now (live_flag a name live);
        first_len = ap (λ (b : Block). length b.payload) (found_named c name (record { live = (named a name).live; payload = take len (named a name).payload }) first_now) ∙ first_long;
        second = is_live c rest (record { live = true; payload = (named m rest).payload }) marked.there refl;
        second_len = ap (λ (b : Block). length b.payload) (found_named c rest (record { live = true; payload = (named m rest).payload }) marked.there) ∙ rest_long;
        others = λ n ne far. same_live a c n (others_halved n ne far);
        lens = λ n ne far. same_len a c n (others_halved n ne far);
        count = omega (arith, off, first, second);
        held = marked.held ∙ split.held;
      }
