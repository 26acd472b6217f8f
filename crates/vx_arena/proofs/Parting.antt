-- By name: a block that is cut in two, and a new chunk.
use Rattle.std.proofs.Common.{inl, inr, ◌≡◌, ℕ, ◌+◌, ◌-◌, ◌/◌, ◌%◌, ◌^◌, ◌<◌, ◌≤◌, false, Some, None, List, [], ◌∷◌, length, take, drop, replicate, refl, sym, ap, ◌∙◌, subst, arith}
use Rattle.std.specs.List.{sum_by}
use Rattle.std.proofs.lemmas.Bool.{cases_eq, cases_lt, cases_order}
use Rattle.std.proofs.lemmas.List.{length-take-le, length-drop, length-set, length_push, length-replicate, get_or-set_same, get_or-set_other, get_or_append_left, get_or_push, get_or_past}
use Rattle.std.proofs.lemmas.List.Sums.{sum_by-cons, sum_by_push}
use Rattle.vx_raw.specs.declared.place.Place.{Place}
use Rattle.vx_arena.specs.Block.{Block, size, bytes_of, found, replaced}
use Rattle.vx_arena.specs.Chunks.{Chunks, blocks_at, found_in, block_at, with_blocks, with_chunk, halves, held_by}
use Rattle.vx_arena.specs.Names.{name_of, place_of, block_of, named, IsNamed, one_if, lives_in, lives}
use Rattle.vx_arena.specs.Free.{Splits, Adds}
use Rattle.vx_arena.proofs.Cutting.{block_chunk}
use Rattle.vx_arena.proofs.Naming.{same_name, held_with, lives_with, bytes_count, size_one, lives_one}
use Rattle.vx_arena.proofs.Surviving.{first_half, second_half, found_outside}
use Rattle.vx_arena.proofs.Writing.{found_here, found_inside, found_later, found_cases, none_found}

nothing : (n : ℕ) → found [] n ≡ None
unfolding found
nothing n = refl

-- no head stands inside a block
none_inside : (blocks : List Block) (at k : ℕ) (b : Block) → found blocks at ≡ Some b → 0 < k → k < size b → found blocks (at + k) ≡ None
none_inside [] at k b is some inside = absurd (none_found at b is)
none_inside (x ∷ more) at k b is some inside = elim (found_cases x more at b is) as (λ _. found (x ∷ more) (at + k) ≡ None) [
  | inl e ↦
      let start : at ≡ 0 = e.0 in
      let same : size x ≡ size b = ap size e.1 in
      let away : at + k ≡ 0 → ⊥ = λ z. omega (arith, z, some) in
      found_inside x more (at + k) away (omega (arith, start, same, inside))
  | inr later ↦
      let ge : size x ≤ at = later.0 in
      let far : size x ≤ at + k = omega (arith, ge) in
      let moved : at + k - size x ≡ (at - size x) + k = omega (arith, ge) in
      found_later x more (at + k) far ∙ (ap (found more) moved ∙ none_inside more (at - size x) k b later.1 some inside)
]

pub place_back : (p : Place) (name : ℕ) → p.chunk < 2 ^ 32 → name ≡ name_of p → place_of name ≡ p
place_back p name fits is =
    let chunk : name % 2 ^ 32 ≡ p.chunk = omega (arith, is, fits) in
    let at : name / 2 ^ 32 ≡ p.at = omega (arith, is, fits) in
    λ i. record { chunk = chunk i; at = at i }

-- a chunk's blocks, where they were changed
own_blocks : (chunks : Chunks) (place : Place) (new : List Block) → place.chunk < length chunks → blocks_at (with_blocks chunks place new) place.chunk ≡ replaced (blocks_at chunks place.chunk) place.at new
own_blocks chunks place new lt = get_or-set_same chunks place.chunk (replaced (blocks_at chunks place.chunk) place.at new) [] lt

-- outside the two halves stands what stood there
outside_found : (chunks : Chunks) (place other : Place) (b c d : Block) → found_in chunks place ≡ Some b → size c + size d ≡ size b → (other.chunk ≡ place.chunk → other.at ≡ place.at → ⊥) → (other.chunk ≡ place.chunk → other.at ≡ place.at + size c → ⊥) → found_in (with_blocks chunks place (c ∷ d ∷ [])) other ≡ found_in chunks other
outside_found chunks place other b c d is room ne rest = elim (cases_eq other.chunk place.chunk) as (λ _. found_in (with_blocks chunks place (c ∷ d ∷ [])) other ≡ found_in chunks other) [
  | inl e ↦
      let there : place.chunk < length chunks = block_chunk chunks place b is in
      let all : found (blocks_at (with_blocks chunks place (c ∷ d ∷ [])) place.chunk) other.at ≡ found (blocks_at chunks place.chunk) other.at =
      ap (λ (bs : List Block). found bs other.at) (own_blocks chunks place (c ∷ d ∷ []) there) ∙ found_outside (blocks_at chunks place.chunk) place.at other.at b c d is room (ne e) (rest e) in
      subst (λ (n : ℕ). found (blocks_at (with_blocks chunks place (c ∷ d ∷ [])) n) other.at ≡ found (blocks_at chunks n) other.at) (sym e) all
  | inr apart ↦ ap (λ (bs : List Block). found bs other.at) (get_or-set_other chunks place.chunk other.chunk (replaced (blocks_at chunks place.chunk) place.at (c ∷ d ∷ [])) [] apart)
]

lives_two : (c d : Block) → d.live ≡ false → lives_in (c ∷ d ∷ []) ≡ one_if c.live
unfolding lives_in
lives_two c d free =
    let all : sum_by (λ (x : Block). one_if x.live) (c ∷ d ∷ []) ≡ one_if c.live + sum_by (λ (x : Block). one_if x.live) (d ∷ []) = sum_by-cons (λ (x : Block). one_if x.live) c (d ∷ []) in
    let last : sum_by (λ (x : Block). one_if x.live) (d ∷ []) ≡ one_if d.live + 0 = sum_by-cons (λ (x : Block). one_if x.live) d [] in
    let off : one_if d.live ≡ 0 = ap one_if free in
    omega (arith, all, last, off)

size_two : (c d : Block) → sum_by size (c ∷ d ∷ []) ≡ size c + size d
size_two c d =
    let all : sum_by size (c ∷ d ∷ []) ≡ size c + sum_by size (d ∷ []) = sum_by-cons size c (d ∷ []) in
    let last : sum_by size (d ∷ []) ≡ size d = size_one d in
    omega (arith, all, last)

pub splits : (chunks after : Chunks) (name rest len : ℕ) (p : Place) → p ≡ place_of name → p.chunk < 2 ^ 32 → IsNamed chunks name → len + 8 ≤ length (named chunks name).payload → p.at + 8 + len ≤ 4096 → rest ≡ name_of (record { chunk = p.chunk; at = p.at + (8 + len) }) → after ≡ with_blocks chunks p (halves (block_at chunks p) len) → Splits chunks after name rest len
unfolding block_of named
splits chunks after name rest len p is fits there inside within rest_is set =
    let b : Block = block_at chunks p in
    let c : Block = record { live = b.live; payload = take len b.payload } in
    let d : Block = record { live = false; payload = drop (len + 8) b.payload } in
    let here : found_in chunks p ≡ Some b = subst (λ (q : Place). found_in chunks q ≡ Some (block_at chunks q)) (sym is) there in
    let same : length b.payload ≡ length (named chunks name).payload = ap (λ (q : Place). length (block_at chunks q).payload) is in
    let near : length (take len b.payload) ≡ len = length-take-le len b.payload (omega (arith, same, inside)) in
    let far : length (drop (len + 8) b.payload) ≡ length b.payload - (len + 8) = length-drop (len + 8) b.payload in
    let room : size c + size d ≡ size b = omega (arith, near, far, same, inside) in
    let at_rest : place_of rest ≡ record { chunk = p.chunk; at = p.at + (8 + len) } = place_back (record { chunk = p.chunk; at = p.at + (8 + len) }) rest fits rest_is in
    let in_chunk : p.chunk < length chunks = block_chunk chunks p b here in
    let first : found_in after (place_of name) ≡ Some c =
    subst (λ (q : Place). found_in after q ≡ Some c) is (ap (λ (v : Chunks). found_in v p) set ∙ (ap (λ (bs : List Block). found bs p.at) (own_blocks chunks p (c ∷ d ∷ []) in_chunk) ∙ first_half (blocks_at chunks p.chunk) p.at b c d here)) in
    let moved : p.at + (8 + len) ≡ p.at + size c = omega (arith, near) in
    let second : found_in after (place_of rest) ≡ Some d =
    ap (found_in after) at_rest ∙ (ap (λ (v : Chunks). found_in v (record { chunk = p.chunk; at = p.at + (8 + len) })) set ∙ (ap (λ (bs : List Block). found bs (p.at + (8 + len))) (own_blocks chunks p (c ∷ d ∷ []) in_chunk) ∙ (ap (found (replaced (blocks_at chunks p.chunk) p.at (c ∷ d ∷ []))) moved ∙ second_half (blocks_at chunks p.chunk) p.at b c d here))) in
    let gone : found_in chunks (place_of rest) ≡ None =
    ap (found_in chunks) at_rest ∙ none_inside (blocks_at chunks p.chunk) p.at (8 + len) b here (omega arith) (omega (arith, same, inside)) in
    let lived : lives (with_blocks chunks p (c ∷ d ∷ [])) + one_if b.live ≡ lives chunks + lives_in (c ∷ d ∷ []) = lives_with chunks p b (c ∷ d ∷ []) here in
    let two : lives_in (c ∷ d ∷ []) ≡ one_if b.live = lives_two c d refl in
    let count : lives (with_blocks chunks p (c ∷ d ∷ [])) ≡ lives chunks = omega (arith, lived, two) in
    record {
      first = first ∙ ap (λ (q : Place). Some (record { live = (block_at chunks q).live; payload = take len (block_at chunks q).payload })) is;
      second = second ∙ ap (λ (q : Place). Some (record { live = false; payload = drop (len + 8) (block_at chunks q).payload })) is;
      some = λ e. omega (arith, within, rest_is, fits, e);
      gone = gone;
      others = λ n ne ne_rest. ap (λ (v : Chunks). found_in v (place_of n)) set ∙ outside_found chunks p (place_of n) b c d here room
          (λ chunk at. ne (same_name n name (chunk ∙ ap (λ (q : Place). q.chunk) is) (at ∙ ap (λ (q : Place). q.at) is)))
          (λ chunk at. ne_rest (same_name n rest (chunk ∙ sym (ap (λ (q : Place). q.chunk) at_rest)) (at ∙ (sym moved ∙ sym (ap (λ (q : Place). q.at) at_rest)))));
      count = ap lives set ∙ count;
      held = ap held_by set ∙ held_with chunks p b (c ∷ d ∷ []) here (size_two c d ∙ room);
      many = ap length set ∙ length-set chunks p.chunk (replaced (blocks_at chunks p.chunk) p.at (c ∷ d ∷ []));
    }

-- a new chunk
lives_pushed : (chunks : Chunks) → lives (with_chunk chunks) ≡ lives chunks
unfolding lives
lives_pushed chunks =
    let all : lives (with_chunk chunks) ≡ lives chunks + lives_in (record { live = false; payload = replicate 4088 0 } ∷ []) = sum_by_push lives_in chunks (record { live = false; payload = replicate 4088 0 } ∷ []) in
    let one : lives_in (record { live = false; payload = replicate 4088 0 } ∷ []) ≡ 0 = lives_one (record { live = false; payload = replicate 4088 0 }) in
    omega (arith, all, one)

held_pushed : (chunks : Chunks) → held_by (with_chunk chunks) ≡ held_by chunks + 4096
held_pushed chunks =
    let free : List Block = record { live = false; payload = replicate 4088 0 } ∷ [] in
    let all : held_by (with_chunk chunks) ≡ held_by chunks + length (bytes_of free) = sum_by_push (λ (bs : List Block). length (bytes_of bs)) chunks free in
    let one : length (bytes_of free) ≡ sum_by size free = bytes_count free in
    let two : sum_by size free ≡ size (record { live = false; payload = replicate 4088 0 }) = size_one (record { live = false; payload = replicate 4088 0 }) in
    let zeros : length (replicate {A = ℕ} 4088 0) ≡ 4088 = length-replicate {A = ℕ} 4088 0 in
    omega (arith, all, one, two, zeros)

past_none : (chunks : Chunks) (place : Place) → length chunks ≤ place.chunk → found_in chunks place ≡ None
past_none chunks place past = ap (λ (bs : List Block). found bs place.at) (get_or_past chunks place.chunk [] past) ∙ nothing place.at

other_in_new : (b : Block) (k : ℕ) → (k ≡ 0 → ⊥) → found (b ∷ []) k ≡ None
other_in_new b k ne = elim (cases_lt k (size b)) as (λ _. found (b ∷ []) k ≡ None) [
  | inl lt ↦ found_inside b [] k ne lt
  | inr ge ↦ found_later b [] k ge ∙ nothing (k - size b)
]

other_pushed : (chunks : Chunks) (place : Place) → (place.chunk ≡ length chunks → place.at ≡ 0 → ⊥) → found_in (with_chunk chunks) place ≡ found_in chunks place
other_pushed chunks place ne = elim (cases_order place.chunk (length chunks)) as (λ _. found_in (with_chunk chunks) place ≡ found_in chunks place) [
  | inl e ↦
      ap (λ (bs : List Block). found bs place.at) (get_or_push chunks (record { live = false; payload = replicate 4088 0 } ∷ []) [] place.chunk (sym e))
      ∙ (other_in_new (record { live = false; payload = replicate 4088 0 }) place.at (ne e) ∙ sym (past_none chunks place (omega (arith, e))))
  | inr other ↦ elim (other) as (λ _. found_in (with_chunk chunks) place ≡ found_in chunks place) [
    | inl lt ↦ ap (λ (bs : List Block). found bs place.at) (get_or_append_left chunks ((record { live = false; payload = replicate 4088 0 } ∷ []) ∷ []) [] place.chunk lt)
    | inr gt ↦
        let count : length (with_chunk chunks) ≡ length chunks + 1 = length_push chunks (record { live = false; payload = replicate 4088 0 } ∷ []) in
        past_none (with_chunk chunks) place (omega (arith, count, gt)) ∙ sym (past_none chunks place (omega (arith, gt)))
  ]
]

pub adds : (chunks after : Chunks) (name : ℕ) → name ≡ length chunks → name < 2 ^ 32 → after ≡ with_chunk chunks → Adds chunks after name
unfolding block_of
adds chunks after name is fits set =
    let at : place_of name ≡ record { chunk = name; at = 0 } = place_back (record { chunk = name; at = 0 }) name fits (omega arith) in
    record {
      some = λ e. omega (arith, fits, e);
      there = ap (found_in after) at ∙ (ap (λ (v : Chunks). found_in v (record { chunk = name; at = 0 })) set ∙ (ap (λ (bs : List Block). found bs 0) (get_or_push chunks (record { live = false; payload = replicate 4088 0 } ∷ []) [] name (sym is)) ∙ found_here (record { live = false; payload = replicate 4088 0 }) []));
      gone = ap (found_in chunks) at ∙ past_none chunks (record { chunk = name; at = 0 }) (omega (arith, is));
      others = λ n ne. ap (λ (v : Chunks). found_in v (place_of n)) set ∙ other_pushed chunks (place_of n) (λ chunk zero. ne (same_name n name (chunk ∙ (sym is ∙ sym (ap (λ (q : Place). q.chunk) at))) (zero ∙ sym (ap (λ (q : Place). q.at) at))));
      count = ap lives set ∙ lives_pushed chunks;
      held = ap held_by set ∙ held_pushed chunks;
      many = ap length set ∙ length_push chunks (record { live = false; payload = replicate 4088 0 } ∷ []);
    }
