-- Blocks for parts: found, cut, taken.
use Rattle.std.proofs.Common.{inl, inr, ◌≡◌, ◌⊎◌, ℕ, ◌+◌, ◌-◌, ◌<◌, ◌≤◌, Bool, true, false, Option, Some, None, length, refl, sym, ap, ◌∙◌, subst, arith, cond}
use Rattle.std.proofs.lemmas.Bool.{cases_eq, cases_lt}
use Rattle.std.proofs.lemmas.Bool.Decides.{nat_tests}
use Rattle.vx_arena.specs.Block.{Block}
use Rattle.vx_arena.specs.Chunks.{Chunks}
use Rattle.vx_arena.specs.Names.{none, block_of, named, live_in, live_at, len_in, len_at, lives}
use Rattle.vx_arena.specs.Free.{class_len, class_of, IsLive, Frees, Wakes, Gives, HasNone, Grows, Halves}
use Rattle.vx_arena.specs.Part.{class_for, IsSpare, Lacks, Found, Added, Obtains, Rest, Trims, CutFrom, CutNew, Takes}
use Rattle.vx_arena.proofs.Classes.{class_below, class_len_least, class_len_most, holds_class, class_holds}
use Rattle.vx_arena.proofs.Effects.{live_again, len_some}
use Rattle.vx_arena.proofs.Steps.{named_live}

pub class_for_below : (bytes : ℕ) → class_for bytes < 8
unfolding class_for
class_for_below bytes = grind (arith, nat_tests)

pub class_for_holds : (bytes : ℕ) → bytes ≤ 2048 → bytes ≤ class_len (class_for bytes)
unfolding class_for class_len
class_for_holds bytes few = grind (arith, nat_tests)

-- a free block, as a block
pub record SpareBlock (chunks : Chunks) (name len : ℕ) : Type 0 where
  pub block : Block
  pub is : block_of chunks name ≡ Some block
  pub free : block.live ≡ false
  pub long : length block.payload ≡ len

not_some : {A : Type 0} {b : A} {X : Type 0} → None ≡ Some b → X
not_some e = absurd (cc)

not_none : {A : Type 0} {b : A} {X : Type 0} → Some b ≡ None → X
not_none e = absurd (cc)

same_number : (m n : ℕ) → Some m ≡ Some n → m ≡ n
same_number m n e = cc

spare_in : (chunks : Chunks) (name len : ℕ) (o : Option Block) → block_of chunks name ≡ o → live_in o ≡ None → len_in o ≡ Some len → SpareBlock chunks name len
spare_in chunks name len None is free long = not_some long
spare_in chunks name len (Some b) is free long = flagged b.live refl free where
  flagged : (t : Bool) → b.live ≡ t → cond t (Some b.payload) None ≡ None → SpareBlock chunks name len
  flagged true e f = not_none f
  flagged false e f = record { block = b; is = is; free = e; long = same_number (length b.payload) len long }

pub spare_block : (chunks : Chunks) (name len : ℕ) → IsSpare chunks name len → SpareBlock chunks name len
unfolding live_at len_at
spare_block chunks name len s = spare_in chunks name len (block_of chunks name) refl s.free s.long

-- one class after another has none
abbrev pub NoneOf : Chunks → ℕ → ℕ → Type 0
NoneOf chunks from to = (class : ℕ) → from ≤ class → class < to → (n : ℕ) (b : Block) → block_of chunks n ≡ Some b → b.live ≡ false → class_of (length b.payload) ≡ class → ⊥

pub none_yet : (chunks : Chunks) (from to : ℕ) → from ≡ to → NoneOf chunks from to
none_yet chunks from to e class ge lt = absurd (omega (arith, e, ge, lt))

pub none_more : (chunks before after : Chunks) (from to : ℕ) → NoneOf chunks from to → before ≡ chunks → HasNone to before after → NoneOf chunks from (to + 1)
none_more chunks before after from to sofar same one class ge lt n b is free own = elim (cases_eq class to) as (λ _. ⊥) [
  | inl e ↦ one.none_of n b (subst (λ (v : Chunks). block_of v n ≡ Some b) (sym same) is) free (own ∙ e)
  | inr ne ↦ sofar class ge (omega (arith, lt, ne)) n b is free own
]

pub lacks : (before now : Chunks) (class : ℕ) → class < 8 → NoneOf before class 8 → now ≡ before → Lacks class before now
lacks before now class lt none same = record {
  same = same;
  none_of = λ name n spare.
      let s : SpareBlock before name n = spare_block before name n spare in
      elim (cases_lt n (class_len class)) as (λ _. n < class_len class) [
        | inl less ↦ less
        | inr ge ↦
            let long : length s.block.payload ≡ n = s.long in
            absurd (none (class_of (length s.block.payload)) (class_holds (length s.block.payload) class lt (omega (arith, long, ge))) (class_below (length s.block.payload)) name s.block s.is s.free refl)
      ];
}

pub gives_more : (before mid after : Chunks) (class i name : ℕ) → class ≤ i → i < 8 → mid ≡ before → Gives i mid after name → Gives class before after name
gives_more before mid after class i name le lt same g =
    let len : ℕ = length (named after name).payload in
    let least : 16 ≤ class_len i = class_len_least i lt in
    let long : class_len i ≤ len = g.long in
    let of : i ≤ class_of len = class_holds len i lt long in
    record {
      wakes = subst (λ (v : Chunks). Wakes v after name) same g.wakes;
      long = holds_class len class (omega (arith, le, lt)) (omega (arith, least, long)) (omega (arith, le, of));
    }

-- a live block's length
pub live_len : (chunks : Chunks) (name : ℕ) → IsLive chunks name → len_at chunks name ≡ Some (length (named chunks name).payload)
live_len chunks name live = len_some chunks name (named chunks name) (named_live chunks name live)

pub obtains_found : (class : ℕ) (before after : Chunks) (name : ℕ) → Gives class before after name → Obtains class before after name
obtains_found class before after name g = record {
  fresh = g.wakes.fresh;
  live = g.wakes.live;
  long = g.long;
  others = g.wakes.others;
  lens = λ n ne. g.wakes.lens n;
  count = g.wakes.count;
  source = inl (record { same = sym (g.wakes.lens name) ∙ live_len after name g.wakes.live; held = g.wakes.held });
}

pub obtains_added : (class : ℕ) (before mid after : Chunks) (name : ℕ) → class < 8 → Lacks class before mid → Grows mid after name → Obtains class before after name
obtains_added class before mid after name lt none g =
    let most : class_len class ≤ 2048 = class_len_most class lt in
    let whole : length (named after name).payload ≡ 4088 = g.whole in
    let h : Grows before after name = subst (λ (v : Chunks). Grows v after name) none.same g in
    record {
      fresh = h.fresh;
      live = h.live;
      long = omega (arith, most, whole);
      others = h.others;
      lens = h.lens;
      count = h.count;
      source = inr (record { none_of = none.none_of; new = h.new; whole = h.whole; held = h.held });
    }

pub trims_none : (chunks : Chunks) (name len : ℕ) → (name ≡ none → ⊥) → IsLive chunks name → len ≤ length (named chunks name).payload → length (named chunks name).payload < len + 24 → Trims chunks chunks name len
trims_none chunks name len some live long short = record {
  some = some;
  live = live;
  long = long;
  short = short;
  others = λ n ne. refl;
  lens = λ n l ne is. is;
  rest = inl short;
  count = refl;
  held = refl;
}

pub len_same : (a d : Chunks) (name : ℕ) → IsLive a name → IsLive d name → len_at d name ≡ len_at a name → length (named d name).payload ≡ length (named a name).payload
len_same a d name one two same = same_number (length (named d name).payload) (length (named a name).payload) (sym (live_len d name two) ∙ (same ∙ live_len a name one))

not_live_none : (chunks : Chunks) (n m : ℕ) → IsLive chunks n → live_at chunks m ≡ None → n ≡ m → ⊥
not_live_none chunks n m live gone e = not_some (sym gone ∙ (ap (live_at chunks) (sym e) ∙ live))

not_len_none : (chunks : Chunks) (n m l : ℕ) → len_at chunks n ≡ Some l → len_at chunks m ≡ None → n ≡ m → ⊥
not_len_none chunks n m l is gone e = not_some (sym gone ∙ (ap (len_at chunks) (sym e) ∙ is))

still_live : (a d : Chunks) (name : ℕ) → IsLive a name → live_at d name ≡ live_at a name → len_at d name ≡ len_at a name → IsLive d name
still_live a d name live same len = live_again d name (named a name).payload (same ∙ live)

pub trims_cut : (a m d : Chunks) (name rest len : ℕ) → (name ≡ none → ⊥) → IsLive a name → Halves a m name rest len → Frees m d rest → Trims a d name len
trims_cut a m d name rest len some live h f =
    let apart : name ≡ rest → ⊥ = not_live_none a name rest live h.fresh in
    let now : IsLive d name = still_live m d name h.first (f.others name apart) (f.lens name) in
    let same : length (named d name).payload ≡ length (named m name).payload = len_same m d name h.first now (f.lens name) in
    let is : length (named m name).payload ≡ len = h.first_len in
    let one : lives m ≡ lives a + 1 = h.count in
    let two : lives d + 1 ≡ lives m = f.count in
    record {
      some = some;
      live = now;
      long = omega (arith, same, is);
      short = omega (arith, same, is);
      others = λ n ne. elim (cases_eq n rest) as (λ _. live_at d n ≡ live_at a n) [
        | inl e ↦ ap (live_at d) e ∙ (f.gone ∙ (sym h.fresh ∙ ap (live_at a) (sym e)))
        | inr far ↦ f.others n far ∙ h.others n ne far
      ];
      lens = λ n l ne is. f.lens n ∙ (h.lens n ne (not_len_none a n rest l is h.new) ∙ is);
      rest = inr (record { name = rest; spare = record { free = f.gone; long = f.lens rest ∙ (live_len m rest h.second ∙ ap (λ (k : ℕ). Some k) h.second_len) } });
      count = omega (arith, one, two);
      held = f.held ∙ h.held;
    }

source_of : (class : ℕ) (a m d : Chunks) (name len : ℕ) → len ≡ class_len class → len ≤ 2048 → Obtains class a m name → Trims m d name len → Found a m name ⊎ Added class a m name → CutFrom a d name (class_len class) ⊎ CutNew a d (class_len class)
source_of class a m d name len is most o t (inl f) = inl (record {
  was = length (named m name).payload;
  found = f.same;
  rest = subst (λ (k : ℕ). (length (named m name).payload < k + 24) ⊎ Rest d (length (named m name).payload - (k + 8))) is t.rest;
  held = t.held ∙ f.held;
})
source_of class a m d name len is most o t (inr n) = inr (record {
  none_of = n.none_of;
  rest = subst (λ (k : ℕ). Rest d (4088 - (k + 8))) is (of_whole t.rest);
  held = t.held ∙ n.held;
}) where
  of_whole : (length (named m name).payload < len + 24) ⊎ Rest d (length (named m name).payload - (len + 8)) → Rest d (4088 - (len + 8))
  of_whole (inl short) = let whole : length (named m name).payload ≡ 4088 = n.whole in absurd (omega (arith, whole, short, most))
  of_whole (inr rest) = subst (λ (k : ℕ). Rest d (k - (len + 8))) n.whole rest

pub takes : (class : ℕ) (a m d : Chunks) (name len : ℕ) → class < 8 → len ≡ class_len class → Obtains class a m name → Trims m d name len → Takes class a d name
takes class a m d name len lt is o t =
    let most : class_len class ≤ 2048 = class_len_most class lt in
    let count : lives m ≡ lives a + 1 = o.count in
    let same : lives d ≡ lives m = t.count in
    let long : len ≤ length (named d name).payload = t.long in
    let short : length (named d name).payload < len + 24 = t.short in
    record {
      some = t.some;
      fresh = o.fresh;
      live = t.live;
      long = omega (arith, long, is);
      short = omega (arith, short, is);
      others = λ n ne. t.others n ne ∙ o.others n ne;
      lens = λ n l ne at. t.lens n l ne (o.lens n ne ∙ at);
      count = omega (arith, count, same);
      source = source_of class a m d name len is (omega (arith, is, most)) o t o.source;
    }
