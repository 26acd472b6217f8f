-- A block leaves the list of its class, or goes to its front.
use Rattle.std.proofs.Common.{inl, inr, ◌≡◌, ◌≢◌, ℕ, ◌+◌, ◌^◌, ◌<◌, ◌≤◌, true, false, Some, None, List, [], ◌∷◌, length, get_or, set, refl, sym, ap, ◌∙◌, subst, arith}
use Rattle.std.proofs.lemmas.Bool.{cases_eq}
use Rattle.vx_arena.specs.Block.{Block}
use Rattle.vx_arena.specs.Chunks.{Chunks}
use Rattle.vx_arena.specs.Names.{none, block_of, named, IsNamed, one_if, lives, Changes}
use Rattle.vx_arena.specs.Free.{class_len, class_of, next_in, with_links, Node, first_of, IsLinked, IsListed, SetsBefore, IsLive, Frees, Gives, HasNone}
use Rattle.vx_arena.proofs.Classes.{class_below, holds_class}
use Rattle.vx_arena.proofs.Linking.{not_found, named_from, found_named, length-with_links}
use Rattle.vx_arena.proofs.Relinking.{same_block}
use Rattle.vx_arena.proofs.Pushing.{pushed, long_changed, not_head}
use Rattle.vx_arena.proofs.Popping.{cut, linked_list, head_node, next_there, next_other, no_head, popped}
use Rattle.vx_arena.proofs.Effects.{live_none, Living, living, is_live, same_live, changed_len, sets_live, sets_len, changed_twice, named_moved, long_named}

-- a class without a list
pub bare : (a now : Chunks) (heads : List ℕ) (class : ℕ) → IsListed a heads → class < 8 → get_or heads class 0 ≡ none → a ≡ now → HasNone class now now
bare a now heads class listed lt is view = record {
  same = refl;
  none_of = subst (λ (v : Chunks). (n : ℕ) (b : Block) → block_of v n ≡ Some b → b.live ≡ false → class_of (length b.payload) ≡ class → ⊥) view (no_head a heads class listed lt is);
}

-- the first of a class's list
module _ (a : Chunks) (heads : List ℕ) (class : ℕ) (listed : IsListed a heads) (lt8 : class < 8) (ne : get_or heads class 0 ≢ none) where
  first_node : Node a class none (get_or heads class 0) (first_of (cut a heads (get_or heads class 0) class listed lt8 refl ne).rest)
  first_node = head_node a heads (get_or heads class 0) class listed lt8 refl ne

  pub head_named : IsNamed a (get_or heads class 0)
  head_named = named_from a (get_or heads class 0) first_node.block first_node.is

  pub head_long : 8 ≤ length (named a (get_or heads class 0)).payload
  head_long = let long : 16 ≤ length (named a (get_or heads class 0)).payload = long_named a (get_or heads class 0) listed.long head_named in omega (arith, long)

  head_is : named a (get_or heads class 0) ≡ first_node.block
  head_is = found_named a (get_or heads class 0) first_node.block first_node.is

  after_is : (after : ℕ) → after ≡ next_in (named a (get_or heads class 0)).payload → after ≡ first_of (cut a heads (get_or heads class 0) class listed lt8 refl ne).rest
  after_is after is = is ∙ (ap (λ (b : Block). next_in b.payload) head_is ∙ first_node.next_is)

  pub after_other : (after : ℕ) → after ≡ next_in (named a (get_or heads class 0)).payload → after ≡ get_or heads class 0 → ⊥
  after_other after is e = next_other a heads (get_or heads class 0) class listed lt8 refl ne (sym (after_is after is) ∙ e)

  pub after_named : (after : ℕ) → after ≡ next_in (named a (get_or heads class 0)).payload → after ≢ none → IsNamed a after
  after_named after is some = subst (λ (n : ℕ). IsNamed a n) (sym (after_is after is)) (next_there a heads (get_or heads class 0) class listed lt8 refl ne (λ e. some (after_is after is ∙ e)))

  pub head_free : (named a (get_or heads class 0)).live ≡ false
  head_free = ap (λ (b : Block). b.live) head_is ∙ first_node.free

  -- once it was made live
  module _ (c : Chunks) (after : ℕ) (is : after ≡ next_in (named a (get_or heads class 0)).payload) (put : Changes a c (get_or heads class 0) (record { live = true; payload = (named a (get_or heads class 0)).payload })) where
    pub after_there : after ≢ none → IsNamed c after
    after_there some = named_moved a c after (put.others after (after_other after is)) (after_named after is some)

    long_now : (n : ℕ) (b : Block) → block_of c n ≡ Some b → 16 ≤ length b.payload
    long_now = long_changed a c (get_or heads class 0) (record { live = true; payload = (named a (get_or heads class 0)).payload }) put listed.long (long_named a (get_or heads class 0) listed.long head_named)

    pub after_long : after ≢ none → 16 ≤ length (named c after).payload
    after_long some = long_named c after long_now (after_there some)

    -- a next block is free
    after_free : (rest : List ℕ) → IsLinked a class (get_or heads class 0) rest → after ≡ first_of rest → (b : Block) → block_of a after ≡ Some b → b.live ≡ false
    after_free [] linked e b at = absurd (not_found a none b listed.none_is (subst (λ (k : ℕ). block_of a k ≡ Some b) e at))
    after_free (m ∷ rest) linked e b at =
        ap (λ (x : Block). x.live) (same_block a m b linked.0.block (subst (λ (k : ℕ). block_of a k ≡ Some b) e at) linked.0.is) ∙ linked.0.free

    module _ (d : Chunks) (sets : SetsBefore c d after none) where
      pub pops : IsListed d (set heads class after)
      pops = popped a c d heads (get_or heads class 0) class after (named a (get_or heads class 0)) listed lt8 refl ne head_named is put sets

      free_now : (b : Block) → block_of c after ≡ Some b → b.live ≡ false
      free_now b at = after_free (cut a heads (get_or heads class 0) class listed lt8 refl ne).rest (linked_list a heads (get_or heads class 0) class listed lt8 refl ne).1 (after_is after is) b (sym (put.others after (after_other after is)) ∙ at)

      now_there : block_of d (get_or heads class 0) ≡ Some (record { live = true; payload = (named a (get_or heads class 0)).payload })
      now_there = sets.others (get_or heads class 0) (λ e. after_other after is (sym e)) ∙ put.there

      long_enough : class_len class ≤ length (named a (get_or heads class 0)).payload
      long_enough =
          let own : class_of (length (named a (get_or heads class 0)).payload) ≡ class = ap (λ (b : Block). class_of (length b.payload)) head_is ∙ first_node.of_class in
          holds_class (length (named a (get_or heads class 0)).payload) class lt8 (long_named a (get_or heads class 0) listed.long head_named) (omega (arith, own))

      pub pop_gives : Gives class a d (get_or heads class 0)
      pop_gives =
          let off : one_if (named a (get_or heads class 0)).live ≡ 0 = ap one_if head_free in
          let put_count : lives c + one_if (named a (get_or heads class 0)).live ≡ lives a + 1 = put.count in
          let set_count : lives d ≡ lives c = sets.count in
          let same : length (named d (get_or heads class 0)).payload ≡ length (named a (get_or heads class 0)).payload = ap (λ (b : Block). length b.payload) (found_named d (get_or heads class 0) (record { live = true; payload = (named a (get_or heads class 0)).payload }) now_there) in
          let long : class_len class ≤ length (named a (get_or heads class 0)).payload = long_enough in
          record {
            wakes = record {
              fresh = live_none a (get_or heads class 0) (named a (get_or heads class 0)) head_named head_free;
              live = is_live d (get_or heads class 0) (record { live = true; payload = (named a (get_or heads class 0)).payload }) now_there refl;
              others = λ n away. sets_live c d after none sets free_now n ∙ same_live a c n (put.others n away);
              lens = λ n. sets_len c d after none sets long_now n ∙ changed_len a c (get_or heads class 0) (named a (get_or heads class 0)) (record { live = true; payload = (named a (get_or heads class 0)).payload }) put head_named refl n;
              count = omega (arith, off, put_count, set_count);
              held = sets.held ∙ put.held;
            };
            long = omega (arith, same, long);
          }

pub named_live : (a : Chunks) (name : ℕ) → IsLive a name → IsNamed a name
named_live a name live = let lv : Living a name (named a name).payload = living a name (named a name).payload live in named_from a name lv.block lv.is

pub named_changed : (a m : Chunks) (name : ℕ) (b : Block) → Changes a m name b → IsNamed m name
named_changed a m name b put = named_from m name b put.there

-- a live block goes to the front of its class's list
module _ (a : Chunks) (heads : List ℕ) (name class : ℕ) (listed : IsListed a heads) (live : IsLive a name) (class_is : class ≡ class_of (length (named a name).payload)) where
  lv : Living a name (named a name).payload
  lv = living a name (named a name).payload live

  pub live_named : IsNamed a name
  live_named = named_from a name lv.block lv.is

  live_now : (named a name).live ≡ true
  live_now = ap (λ (b : Block). b.live) (found_named a name lv.block lv.is) ∙ lv.live

  pub live_long : 16 ≤ length (named a name).payload
  live_long = long_named a name listed.long live_named

  pub class_lt : class < 8
  class_lt = let below : class_of (length (named a name).payload) < 8 = class_below (length (named a name).payload) in omega (arith, below, class_is)

  apart : name ≡ get_or heads class 0 → ⊥
  apart e = not_head a class none name (listed.lists class) (named a name) (listed.linked class class_lt) live_named live_now listed.none_is (e ∙ listed.first class class_lt)

  name_some : name ≡ none → ⊥
  name_some e = not_found a none (named a name) listed.none_is (subst (λ (k : ℕ). block_of a k ≡ Some (named a name)) e live_named)

  -- once its links were written, and it was made free
  module _ (m c : Chunks) (linked : Changes a m name (record { live = (named a name).live; payload = with_links (named a name).payload (get_or heads class 0) none })) (marked : Changes m c name (record { live = false; payload = (named m name).payload })) where
    pub link_named : IsNamed m name
    link_named = named_from m name (record { live = (named a name).live; payload = with_links (named a name).payload (get_or heads class 0) none }) linked.there

    freed : Changes a c name (record { live = false; payload = with_links (named a name).payload (get_or heads class 0) none })
    freed = subst (λ (p : List ℕ). Changes a c name (record { live = false; payload = p })) (ap (λ (b : Block). b.payload) (found_named m name (record { live = (named a name).live; payload = with_links (named a name).payload (get_or heads class 0) none }) linked.there))
        (changed_twice a m c name (record { live = (named a name).live; payload = with_links (named a name).payload (get_or heads class 0) none }) (record { live = false; payload = (named m name).payload }) linked marked)

    new_long : length (with_links (named a name).payload (get_or heads class 0) none) ≡ length (named a name).payload
    new_long = length-with_links (named a name).payload (get_or heads class 0) none live_long

    long_after : (n : ℕ) (b : Block) → block_of c n ≡ Some b → 16 ≤ length b.payload
    long_after = long_changed a c name (record { live = false; payload = with_links (named a name).payload (get_or heads class 0) none }) freed listed.long (let same : length (with_links (named a name).payload (get_or heads class 0) none) ≡ length (named a name).payload = new_long in let long : 16 ≤ length (named a name).payload = live_long in omega (arith, same, long))

    pub old_head_named : get_or heads class 0 ≢ none → IsNamed c (get_or heads class 0)
    old_head_named some = named_moved a c (get_or heads class 0) (freed.others (get_or heads class 0) (λ e. apart (sym e))) (head_named a heads class listed class_lt some)

    pub old_head_long : get_or heads class 0 ≢ none → 16 ≤ length (named c (get_or heads class 0)).payload
    old_head_long some = long_named c (get_or heads class 0) long_after (old_head_named some)

    pub none_after : block_of c none ≡ None
    none_after = freed.others none (λ e. name_some (sym e)) ∙ listed.none_is

    module _ (d : Chunks) (name_fits : name < 2 ^ 64) (head_fits : get_or heads class 0 < 2 ^ 64) (sets : SetsBefore c d (get_or heads class 0) name) where
      pub pushes : IsListed d (set heads class name)
      pushes = pushed a c d heads name class (get_or heads class 0) (named a name) listed live_named live_now name_fits head_fits class_is refl freed sets

      head_is_free : (b : Block) → block_of c (get_or heads class 0) ≡ Some b → b.live ≡ false
      head_is_free b at = elim (cases_eq (get_or heads class 0) none) as (λ _. b.live ≡ false) [
        | inl e ↦ absurd (not_found c none b none_after (subst (λ (k : ℕ). block_of c k ≡ Some b) e at))
        | inr some ↦ ap (λ (x : Block). x.live) (same_block a (get_or heads class 0) b (named a (get_or heads class 0)) (sym (freed.others (get_or heads class 0) (λ e. apart (sym e))) ∙ at) (head_named a heads class listed class_lt some)) ∙ head_free a heads class listed class_lt some
      ]

      pub push_frees : Frees a d name
      push_frees =
          let on : one_if (named a name).live ≡ 1 = ap one_if live_now in
          let put_count : lives c + one_if (named a name).live ≡ lives a + 0 = freed.count in
          let set_count : lives d ≡ lives c = sets.count in
          record {
            gone = live_none d name (record { live = false; payload = with_links (named a name).payload (get_or heads class 0) none }) (sets.others name apart ∙ freed.there) refl;
            others = λ n away. sets_live c d (get_or heads class 0) name sets head_is_free n ∙ same_live a c n (freed.others n away);
            lens = λ n. sets_len c d (get_or heads class 0) name sets long_after n ∙ changed_len a c name (named a name) (record { live = false; payload = with_links (named a name).payload (get_or heads class 0) none }) freed live_named new_long n;
            count = omega (arith, on, put_count, set_count);
            held = sets.held ∙ freed.held;
          }
