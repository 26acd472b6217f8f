-- One part more in an arena, or one fewer.
use Rattle.std.proofs.Common.{inl, inr, ◌≡◌, ◌≢◌, ◌⊎◌, ℕ, ◌+◌, ◌-◌, ◌^◌, ◌<◌, ◌≤◌, Some, None, List, length, take, drop, refl, sym, ap, ◌∙◌, subst, arith, w64}
use Rattle.std.specs.Int.{to_le_bytes}
use Rattle.std.proofs.lemmas.List.{take_at}
use Rattle.std.proofs.lemmas.Nat.{from_le_bytes-to_le_bytes_8}
use Rattle.vx_raw.specs.Region.{written}
use Rattle.vx_arena.specs.Chunks.{Chunks}
use Rattle.vx_arena.specs.Names.{none, named, live_at, lives}
use Rattle.vx_arena.specs.Free.{class_len, next_in, IsLive, Frees, Writes}
use Rattle.vx_arena.specs.Part.{class_for, IsSpare, Rest, CutFrom, CutNew, Takes, Pays}
use Rattle.vx_arena.specs.Text.{more, block_bytes, payload_at, StandsLive, next_at, IsUnnamed, IsArena, CanFollow, AddsPart, GivesPart}
use Rattle.vx_arena.proofs.Heads.{length-written}
use Rattle.vx_arena.proofs.Effects.{live_again}
use Rattle.vx_arena.proofs.Parts.{class_for_below, class_for_holds, len_same}
use Rattle.vx_arena.proofs.Paying.{pays_kept, pays_takes}
use Rattle.vx_arena.proofs.Chaining.{payload_from, stands_from, named_payload, apart_from, chained_more, unnamed_more, chained_less, unnamed_less}

-- a payload with a link and a part
abbrev linked : List ℕ → ℕ → List ℕ
linked payload next = written payload 0 (to_le_bytes w64 next)

link_read : (payload part : List ℕ) (next : ℕ) → next < 2 ^ 64 → next_in (written (linked payload next) 8 part) ≡ next
unfolding next_in
link_read payload part next fits = from_le_bytes-to_le_bytes_8 next fits

part_read : (payload part : List ℕ) (next : ℕ) → take (length part) (drop 8 (written (linked payload next) 8 part)) ≡ part
part_read payload part next = take_at part (drop (8 + length part) (linked payload next)) (length part) refl

pub class_fits : (class n : ℕ) → class ≡ class_for (8 + n) → class < 8
class_fits class n is = let below : class_for (8 + n) < 8 = class_for_below (8 + n) in omega (arith, below, is)

-- what is free stays free where a live block is written
spare_again : (x y : Chunks) (name : ℕ) (p : List ℕ) → IsLive x name → Writes x y name p → (n l : ℕ) → IsSpare x n l → IsSpare y n l
spare_again x y name p live wrote n l s =
    let ne : n ≡ name → ⊥ = λ e. apart_from x name n (stands_from x name (named x name).payload live) s.free (sym e) in
    record { free = wrote.others n ne ∙ s.free; long = wrote.lens n ∙ s.long }

rest_again : (x y : Chunks) (name : ℕ) (p : List ℕ) (len : ℕ) → IsLive x name → Writes x y name p → Rest x len → Rest y len
rest_again x y name p len live wrote r = record { name = r.name; spare = spare_again x y name p live wrote r.name len r.spare }

-- a block was taken, and then written
takes_written : (class : ℕ) (a x y : Chunks) (name : ℕ) (p : List ℕ) → Takes class a x name → Writes x y name p → Takes class a y name
takes_written class a x y name p t wrote =
    let live : IsLive y name = live_again y name p wrote.now in
    let same : length (named y name).payload ≡ length (named x name).payload = len_same x y name t.live live (wrote.lens name) in
    let long : class_len class ≤ length (named x name).payload = t.long in
    let short : length (named x name).payload < class_len class + 24 = t.short in
    record {
      some = t.some;
      fresh = t.fresh;
      live = live;
      long = omega (arith, same, long);
      short = omega (arith, same, short);
      others = λ n ne. wrote.others n ne ∙ t.others n ne;
      lens = λ n l ne is. wrote.lens n ∙ t.lens n l ne is;
      count = wrote.count ∙ t.count;
      source = elim (t.source) as (λ _. CutFrom a y name (class_len class) ⊎ CutNew a y (class_len class)) [
        | inl f ↦ inl (record { was = f.was; found = f.found; rest = left_of (f.was) (f.rest); held = wrote.held ∙ f.held })
        | inr f ↦ inr (record { none_of = f.none_of; rest = rest_again x y name p (4088 - (class_len class + 8)) t.live wrote f.rest; held = wrote.held ∙ f.held })
      ];
    }
  where
    left_of : (was : ℕ) → (was < class_len class + 24) ⊎ Rest x (was - (class_len class + 8)) → (was < class_len class + 24) ⊎ Rest y (was - (class_len class + 8))
    left_of was (inl few) = inl few
    left_of was (inr r) = inr (rest_again x y name p (was - (class_len class + 8)) t.live wrote r)

module _ (a m w d : Chunks) (name next class : ℕ) (part link : List ℕ) (few : length part ≤ 2040) (class_is : class ≡ class_for (8 + length part)) (fits : next < 2 ^ 64) (t : Takes class a m name) (link_is : link ≡ to_le_bytes w64 next) where
  room : 8 + length part ≤ length (named m name).payload
  room =
      let holds : 8 + length part ≤ class_len (class_for (8 + length part)) = class_for_holds (8 + length part) (omega (arith, few)) in
      let same : class_len class ≡ class_len (class_for (8 + length part)) = ap class_len class_is in
      let long : class_len class ≤ length (named m name).payload = t.long in
      omega (arith, holds, same, long)

  pub link_inside : 0 + length link ≤ length (named m name).payload
  link_inside = let eight : length link ≡ 8 = ap length link_is in let all : 8 + length part ≤ length (named m name).payload = room in omega (arith, eight, all)

  module _ (one : Writes m w name (written (named m name).payload 0 link)) where
    pub linked_live : IsLive w name
    linked_live = live_again w name (written (named m name).payload 0 link) one.now

    linked_is : (named w name).payload ≡ linked (named m name).payload next
    linked_is = named_payload w name (stands_from w name (written (named m name).payload 0 link) one.now) ∙ (payload_from w name (written (named m name).payload 0 link) one.now ∙ ap (λ (f : List ℕ). written (named m name).payload 0 f) link_is)

    pub part_inside : 8 + length part ≤ length (named w name).payload
    part_inside =
        let all : 8 + length part ≤ length (named m name).payload = room in
        let same : length (named w name).payload ≡ length (linked (named m name).payload next) = ap length linked_is in
        let kept : length (linked (named m name).payload next) ≡ length (named m name).payload = length-written (named m name).payload 0 (to_le_bytes w64 next) (omega (arith, all)) in
        omega (arith, all, same, kept)

    module _ (two : Writes w d name (written (named w name).payload 8 part)) (follow : CanFollow a next) (taken given : ℕ) (arena : IsArena a taken given) where
      holds_now : live_at d name ≡ Some (written (linked (named m name).payload next) 8 part)
      holds_now = two.now ∙ ap (λ (p : List ℕ). Some (written p 8 part)) linked_is

      stands : StandsLive d name
      stands = stands_from d name (written (linked (named m name).payload next) 8 part) holds_now

      payload_is : payload_at d name ≡ written (linked (named m name).payload next) 8 part
      payload_is = payload_from d name (written (linked (named m name).payload next) 8 part) holds_now

      link_now : next_at d name ≡ next
      link_now = ap next_in payload_is ∙ link_read (named m name).payload part next fits

      others : (n : ℕ) → (n ≡ name → ⊥) → live_at d n ≡ live_at a n
      others n ne = two.others n ne ∙ (one.others n ne ∙ t.others n ne)

      takes : Takes (class_for (8 + length part)) a d name
      takes = subst (λ (k : ℕ). Takes k a d name) class_is
          (takes_written class a w d name (written (named w name).payload 8 part) (takes_written class a m w name (written (named m name).payload 0 link) t one) two)

      pays : Pays a d (block_bytes (length part))
      unfolding block_bytes
      pays = pays_takes (class_for (8 + length part)) a d name (class_for_below (8 + length part)) takes

      pub part_added : AddsPart (record { chunks = a; taken = taken; given = given }) (record { chunks = d; taken = more taken 1; given = given }) name next part
      part_added = record {
        fresh = t.fresh;
        live = stands;
        link = link_now;
        holds = ap (λ (p : List ℕ). take (length part) (drop 8 p)) payload_is ∙ part_read (named m name).payload part next;
        first = unnamed_more a d name next t.fresh stands link_now others follow arena.chained;
        some = t.some;
        others = others;
        taken = refl;
        given = refl;
        takes = takes;
        pays = pays;
      }

      pub arena_more : IsArena d (more taken 1) given
      arena_more =
          let first : lives m ≡ lives a + 1 = t.count in
          let second : lives w ≡ lives m = one.count in
          let third : lives d ≡ lives w = two.count in
          let counted : taken ≡ more given (lives a) = arena.counted in
          record {
            counted = omega (arith, first, second, third, counted);
            fits = arena.fits;
            chained = chained_more a d name next t.fresh stands link_now others follow arena.chained;
          }

-- a part's block is free again
module _ (a d : Chunks) (name next taken given : ℕ) (live : StandsLive a name) (first : IsUnnamed a name) (some : name ≢ none) (next_is : next ≡ next_in (named a name).payload) (f : Frees a d name) (arena : IsArena a taken given) where
  link_was : next ≡ next_at a name
  link_was = next_is ∙ ap next_in (named_payload a name live)

  spare_still : (n l : ℕ) → IsSpare a n l → IsSpare d n l
  spare_still n l s = record { free = f.others n (λ e. apart_from a name n live s.free (sym e)) ∙ s.free; long = f.lens n ∙ s.long }

  pub part_given : GivesPart (record { chunks = a; taken = taken; given = given }) (record { chunks = d; taken = taken; given = more given 1 }) name next
  part_given = record {
    link = link_was;
    gone = f.gone;
    count = f.count;
    first = unnamed_less a d name next live f.gone link_was f.others first some arena.chained;
    others = f.others;
    taken = refl;
    given = refl;
    pays = pays_kept a d f.held spare_still;
  }

  pub arena_less : IsArena d taken (more given 1)
  arena_less =
      let count : lives d + 1 ≡ lives a = f.count in
      let counted : taken ≡ more given (lives a) = arena.counted in
      record {
        counted = omega (arith, count, counted);
        fits = omega arith;
        chained = chained_less a d name next live f.gone link_was f.others first some arena.chained;
      }
