-- Which blocks stand where, after one block was changed.
use Rattle.std.proofs.Common.{inl, inr, ◌≡◌, ℕ, ◌+◌, ◌-◌, ◌<◌, ◌≤◌, true, false, eqb, ltb, Option, Some, None, List, [], ◌∷◌, length, take, drop, replicate, unwrap_or, refl, sym, ap, ◌∙◌, subst, arith, cond}
use Rattle.std.proofs.lemmas.Bool.{cases_eq, cases_lt, eqb-true, lt-ltb, le-ltb}
use Rattle.std.proofs.lemmas.List.{get_or-set_same, get_or-set_other, get_or_push, length-take-le}
use Rattle.vx_raw.specs.declared.place.Place.{Place}
use Rattle.vx_arena.specs.Block.{Block, size, found, replaced}
use Rattle.vx_arena.specs.Chunks.{Chunks, blocks_at, found_in, block_at, IsBlock, with_blocks, with_chunk, halves}
use Rattle.vx_arena.proofs.Writing.{found_here, found_inside, found_later, found_cases, replaced_here, replaced_later, none_found}
use Rattle.vx_arena.proofs.Cutting.{block_chunk, found_again}

-- the search goes on behind a first block alike
found_behind : (x y : Block) (first second : List Block) (k : ℕ) → size x ≡ size y → (k ≡ 0 → ⊥) → (size y ≤ k → found first (k - size y) ≡ found second (k - size y)) → found (x ∷ first) k ≡ found (y ∷ second) k
unfolding found
found_behind x y first second k same ne behind = rw same (elim (eqb k 0) as (λ t. eqb k 0 ≡ t → cond t (Some x) (cond (ltb k (size y)) None (found first (k - size y))) ≡ cond t (Some y) (cond (ltb k (size y)) None (found second (k - size y)))) [
  | true ↦ λ e. absurd (ne (eqb-true k 0 e))
  | false ↦ λ _. elim (cases_lt k (size y)) as (λ _. cond (ltb k (size y)) None (found first (k - size y)) ≡ cond (ltb k (size y)) None (found second (k - size y))) [
    | inl lt ↦ rw (lt-ltb k (size y) lt) refl
    | inr ge ↦ rw (le-ltb k (size y) ge) (behind ge)
  ]
] refl)

found_first_alike : (x : Block) (first second : List Block) (k : ℕ) → (size x ≤ k → found first (k - size x) ≡ found second (k - size x)) → found (x ∷ first) k ≡ found (x ∷ second) k
unfolding found
found_first_alike x first second k behind = elim (eqb k 0) as (λ t. cond t (Some x) (cond (ltb k (size x)) None (found first (k - size x))) ≡ cond t (Some x) (cond (ltb k (size x)) None (found second (k - size x)))) [
  | true ↦ refl
  | false ↦ elim (cases_lt k (size x)) as (λ _. cond (ltb k (size x)) None (found first (k - size x)) ≡ cond (ltb k (size x)) None (found second (k - size x))) [
    | inl lt ↦ rw (lt-ltb k (size x) lt) refl
    | inr ge ↦ rw (le-ltb k (size x) ge) (behind ge)
  ]
]

-- a block that is as long in place of one: at every other place stands what stood there
pub found_elsewhere : (blocks : List Block) (at k : ℕ) (b c : Block) → found blocks at ≡ Some b → size c ≡ size b → (k ≡ at → ⊥) → found (replaced blocks at (c ∷ [])) k ≡ found blocks k
found_elsewhere [] at k b c is same ne = absurd (none_found at b is)
found_elsewhere (x ∷ more) at k b c is same ne = elim (found_cases x more at b is) as (λ _. found (replaced (x ∷ more) at (c ∷ [])) k ≡ found (x ∷ more) k) [
  | inl e ↦
      let long : size c ≡ size x = same ∙ ap size (sym e.1) in
      let past : k ≡ 0 → ⊥ = λ z. ne (z ∙ sym e.0) in
      subst (λ (n : ℕ). found (replaced (x ∷ more) n (c ∷ [])) k ≡ found (x ∷ more) k) (sym e.0)
      (ap (λ (bs : List Block). found bs k) (replaced_here x more (c ∷ [])) ∙ found_behind c x more more k long past (λ _. refl))
  | inr later ↦
      let ge : size x ≤ at = later.0 in
      let away : at ≡ 0 → ⊥ = λ e. omega (arith, ge, e) in
      ap (λ (bs : List Block). found bs k) (replaced_later x more at (c ∷ []) away)
      ∙ found_first_alike x (replaced more (at - size x) (c ∷ [])) more k
      (λ far. found_elsewhere more (at - size x) (k - size x) b c later.1 same (λ e. ne (omega (arith, e, ge, far))))
]

-- the same over chunks: every other place finds what it found
pub others_found : (chunks : Chunks) (place other : Place) (b c : Block) → found_in chunks place ≡ Some b → size c ≡ size b → (other.chunk ≡ place.chunk → other.at ≡ place.at → ⊥) → found_in (with_blocks chunks place (c ∷ [])) other ≡ found_in chunks other
others_found chunks place other b c is same ne = elim (cases_eq other.chunk place.chunk) as (λ _. found_in (with_blocks chunks place (c ∷ [])) other ≡ found_in chunks other) [
  | inl e ↦
      let there : place.chunk < length chunks = block_chunk chunks place b is in
      let new : blocks_at (with_blocks chunks place (c ∷ [])) place.chunk ≡ replaced (blocks_at chunks place.chunk) place.at (c ∷ []) = get_or-set_same chunks place.chunk (replaced (blocks_at chunks place.chunk) place.at (c ∷ [])) [] there in
      let all : found (blocks_at (with_blocks chunks place (c ∷ [])) place.chunk) other.at ≡ found (blocks_at chunks place.chunk) other.at =
      ap (λ (bs : List Block). found bs other.at) new ∙ found_elsewhere (blocks_at chunks place.chunk) place.at other.at b c is same (ne e) in
      subst (λ (n : ℕ). found (blocks_at (with_blocks chunks place (c ∷ [])) n) other.at ≡ found (blocks_at chunks n) other.at) (sym e) all
  | inr apart ↦ ap (λ (bs : List Block). found bs other.at) (get_or-set_other chunks place.chunk other.chunk (replaced (blocks_at chunks place.chunk) place.at (c ∷ [])) [] apart)
]

-- the changed block stands where the old one stood
pub still_there : (chunks : Chunks) (place : Place) (c : Block) → IsBlock chunks place → IsBlock (with_blocks chunks place (c ∷ [])) place
still_there chunks place c there =
    let now : found_in (with_blocks chunks place (c ∷ [])) place ≡ Some c = found_again chunks place (block_at chunks place) c there in
    now ∙ ap (λ (o : Option Block). Some (unwrap_or o (record { live = false; payload = [] }))) (sym now)

pub changed_block : (chunks : Chunks) (place : Place) (c : Block) → IsBlock chunks place → block_at (with_blocks chunks place (c ∷ [])) place ≡ c
changed_block chunks place c there =
    ap (λ (o : Option Block). unwrap_or o (record { live = false; payload = [] })) (found_again chunks place (block_at chunks place) c there)

-- and each other block stands where it stood, as it was
pub others_stand : (chunks : Chunks) (place other : Place) (c : Block) → IsBlock chunks place → size c ≡ size (block_at chunks place) → (other.chunk ≡ place.chunk → other.at ≡ place.at → ⊥) → IsBlock chunks other → IsBlock (with_blocks chunks place (c ∷ [])) other × (block_at (with_blocks chunks place (c ∷ [])) other ≡ block_at chunks other)
others_stand chunks place other c there same ne stands =
    let as_was : found_in (with_blocks chunks place (c ∷ [])) other ≡ found_in chunks other = others_found chunks place other (block_at chunks place) c there same ne in
    let alike : block_at (with_blocks chunks place (c ∷ [])) other ≡ block_at chunks other = ap (λ (o : Option Block). unwrap_or o (record { live = false; payload = [] })) as_was in
    (as_was ∙ (stands ∙ ap (λ (b : Block). Some b) (sym alike)), alike)

-- a new chunk's block
pub added_there : (chunks : Chunks) (number : ℕ) → number ≡ length chunks → IsBlock (with_chunk chunks) (record { chunk = number; at = 0 })
added_there chunks number is =
    let free : Block = record { live = false; payload = replicate 4088 0 } in
    let blocks : blocks_at (with_chunk chunks) number ≡ free ∷ [] = get_or_push chunks (free ∷ []) [] number (sym is) in
    let now : found_in (with_chunk chunks) (record { chunk = number; at = 0 }) ≡ Some free = ap (λ (bs : List Block). found bs 0) blocks ∙ found_here free [] in
    now ∙ ap (λ (o : Option Block). Some (unwrap_or o (record { live = false; payload = [] }))) (sym now)

-- the two blocks that a cut makes
pub first_half : (blocks : List Block) (at : ℕ) (b c d : Block) → found blocks at ≡ Some b → found (replaced blocks at (c ∷ d ∷ [])) at ≡ Some c
first_half [] at b c d is = absurd (none_found at b is)
first_half (x ∷ more) at b c d is = elim (found_cases x more at b is) as (λ _. found (replaced (x ∷ more) at (c ∷ d ∷ [])) at ≡ Some c) [
  | inl e ↦ subst (λ (n : ℕ). found (replaced (x ∷ more) n (c ∷ d ∷ [])) n ≡ Some c) (sym e.0)
      (ap (λ (bs : List Block). found bs 0) (replaced_here x more (c ∷ d ∷ [])) ∙ found_here c (d ∷ more))
  | inr later ↦
      let ge : size x ≤ at = later.0 in
      let away : at ≡ 0 → ⊥ = λ e. omega (arith, ge, e) in
      ap (λ (bs : List Block). found bs at) (replaced_later x more at (c ∷ d ∷ []) away)
      ∙ (found_later x (replaced more (at - size x) (c ∷ d ∷ [])) at ge ∙ first_half more (at - size x) b c d later.1)
]

pub second_half : (blocks : List Block) (at : ℕ) (b c d : Block) → found blocks at ≡ Some b → found (replaced blocks at (c ∷ d ∷ [])) (at + size c) ≡ Some d
second_half [] at b c d is = absurd (none_found at b is)
second_half (x ∷ more) at b c d is = elim (found_cases x more at b is) as (λ _. found (replaced (x ∷ more) at (c ∷ d ∷ [])) (at + size c) ≡ Some d) [
  | inl e ↦
      let moved : 0 + size c ≡ size c = omega arith in
      let none : size c - size c ≡ 0 = omega arith in
      let ge : size c ≤ size c = omega arith in
      subst (λ (n : ℕ). found (replaced (x ∷ more) n (c ∷ d ∷ [])) (n + size c) ≡ Some d) (sym e.0)
      (ap (λ (bs : List Block). found bs (0 + size c)) (replaced_here x more (c ∷ d ∷ []))
      ∙ (ap (found (c ∷ d ∷ more)) moved ∙ (found_later c (d ∷ more) (size c) ge ∙ (ap (found (d ∷ more)) none ∙ found_here d more))))
  | inr later ↦
      let ge : size x ≤ at = later.0 in
      let away : at ≡ 0 → ⊥ = λ e. omega (arith, ge, e) in
      let far : size x ≤ at + size c = omega (arith, ge) in
      let moved : at + size c - size x ≡ (at - size x) + size c = omega (arith, ge) in
      ap (λ (bs : List Block). found bs (at + size c)) (replaced_later x more at (c ∷ d ∷ []) away)
      ∙ (found_later x (replaced more (at - size x) (c ∷ d ∷ [])) (at + size c) far
      ∙ (ap (found (replaced more (at - size x) (c ∷ d ∷ []))) moved ∙ second_half more (at - size x) b c d later.1))
]

-- two blocks in the room of one
found_halves : (c d b : Block) (more : List Block) (k : ℕ) → size c + size d ≡ size b → (k ≡ 0 → ⊥) → (k ≡ size c → ⊥) → found (c ∷ d ∷ more) k ≡ found (b ∷ more) k
found_halves c d b more k room ne other = elim (cases_lt k (size c)) as (λ _. found (c ∷ d ∷ more) k ≡ found (b ∷ more) k) [
  | inl lt ↦ found_inside c (d ∷ more) k ne lt ∙ sym (found_inside b more k ne (omega (arith, lt, room)))
  | inr ge ↦ found_later c (d ∷ more) k ge ∙ (elim (cases_lt (k - size c) (size d)) as (λ _. found (d ∷ more) (k - size c) ≡ found (b ∷ more) k) [
    | inl lt ↦
        let past : k - size c ≡ 0 → ⊥ = λ e. other (omega (arith, e, ge)) in
        found_inside d more (k - size c) past lt ∙ sym (found_inside b more k ne (omega (arith, lt, ge, room)))
    | inr far ↦
        let moved : k - size c - size d ≡ k - size b = omega (arith, far, ge, room) in
        let all : size b ≤ k = omega (arith, far, ge, room) in
        found_later d more (k - size c) far ∙ (ap (found more) moved ∙ sym (found_later b more k all))
  ])
]

pub found_outside : (blocks : List Block) (at k : ℕ) (b c d : Block) → found blocks at ≡ Some b → size c + size d ≡ size b → (k ≡ at → ⊥) → (k ≡ at + size c → ⊥) → found (replaced blocks at (c ∷ d ∷ [])) k ≡ found blocks k
found_outside [] at k b c d is room ne other = absurd (none_found at b is)
found_outside (x ∷ more) at k b c d is room ne other = elim (found_cases x more at b is) as (λ _. found (replaced (x ∷ more) at (c ∷ d ∷ [])) k ≡ found (x ∷ more) k) [
  | inl e ↦
      let start : at ≡ 0 = e.0 in
      let fits : size c + size d ≡ size x = room ∙ ap size (sym e.1) in
      let past : k ≡ 0 → ⊥ = λ z. ne (z ∙ sym e.0) in
      let apart : k ≡ size c → ⊥ = λ z. other (omega (arith, z, start)) in
      subst (λ (n : ℕ). found (replaced (x ∷ more) n (c ∷ d ∷ [])) k ≡ found (x ∷ more) k) (sym e.0)
      (ap (λ (bs : List Block). found bs k) (replaced_here x more (c ∷ d ∷ [])) ∙ found_halves c d x more k fits past apart)
  | inr later ↦
      let ge : size x ≤ at = later.0 in
      let away : at ≡ 0 → ⊥ = λ e. omega (arith, ge, e) in
      ap (λ (bs : List Block). found bs k) (replaced_later x more at (c ∷ d ∷ []) away)
      ∙ found_first_alike x (replaced more (at - size x) (c ∷ d ∷ [])) more k
      (λ far. found_outside more (at - size x) (k - size x) b c d later.1 room (λ e. ne (omega (arith, e, ge, far))) (λ e. other (omega (arith, e, ge, far))))
]

-- what stands after a cut: both halves
pub record HalvesStand (chunks : Chunks) (place : Place) (len : ℕ) : Type 0 where
  pub first : IsBlock (with_blocks chunks place (halves (block_at chunks place) len)) place
  pub second : IsBlock (with_blocks chunks place (halves (block_at chunks place) len)) (record { chunk = place.chunk; at = place.at + (8 + len) })

found_is_block : (chunks : Chunks) (place : Place) (b : Block) → found_in chunks place ≡ Some b → IsBlock chunks place
found_is_block chunks place b is = is ∙ ap (λ (o : Option Block). Some (unwrap_or o (record { live = false; payload = [] }))) (sym is)

pub halves_stand : (chunks : Chunks) (place : Place) (len : ℕ) → IsBlock chunks place → len + 8 ≤ length (block_at chunks place).payload → HalvesStand chunks place len
halves_stand chunks place len there inside =
    let b : Block = block_at chunks place in
    let c : Block = record { live = b.live; payload = take len b.payload } in
    let d : Block = record { live = false; payload = drop (len + 8) b.payload } in
    let near : length (take len b.payload) ≡ len = length-take-le len b.payload (omega (arith, inside)) in
    let there_is : place.chunk < length chunks = block_chunk chunks place b there in
    let new : blocks_at (with_blocks chunks place (halves b len)) place.chunk ≡ replaced (blocks_at chunks place.chunk) place.at (c ∷ d ∷ []) = get_or-set_same chunks place.chunk (replaced (blocks_at chunks place.chunk) place.at (c ∷ d ∷ [])) [] there_is in
    let one : found_in (with_blocks chunks place (halves b len)) place ≡ Some c = ap (λ (bs : List Block). found bs place.at) new ∙ first_half (blocks_at chunks place.chunk) place.at b c d there in
    let moved : place.at + (8 + len) ≡ place.at + size c = omega (arith, near) in
    let two : found_in (with_blocks chunks place (halves b len)) (record { chunk = place.chunk; at = place.at + (8 + len) }) ≡ Some d = ap (λ (bs : List Block). found bs (place.at + (8 + len))) new ∙ (ap (found (replaced (blocks_at chunks place.chunk) place.at (c ∷ d ∷ []))) moved ∙ second_half (blocks_at chunks place.chunk) place.at b c d there) in
    record { first = found_is_block (with_blocks chunks place (halves b len)) place c one; second = found_is_block (with_blocks chunks place (halves b len)) (record { chunk = place.chunk; at = place.at + (8 + len) }) d two }
