-- How a block is cut in two.
use Rattle.std.proofs.Common.{inl, inr, ◌≡◌, ℕ, ◌+◌, ◌-◌, ◌^◌, ◌<◌, ◌≤◌, Bool, false, Some, List, [], ◌∷◌, ◌++◌, length, take, drop, set, sym, ap, ◌∙◌, subst, arith, w32, cond}
use Rattle.std.proofs.lemmas.List.{append-nil, append_assoc, length-drop, length-take-le, get_or-set_same, get_or_past, set-set}
use Rattle.std.proofs.lemmas.Bool.{cases_lt}
use Rattle.std.specs.Int.{to_le_bytes}
use Rattle.vx_raw.specs.Region.{RegionModel, chunk_at, written, IsInside}
use Rattle.vx_raw.specs.declared.place.Place.{Place}
use Rattle.vx_arena.specs.Block.{Block, size, spelled, bytes_of, found, replaced}
use Rattle.vx_arena.specs.Chunks.{Chunks, chunks_of, IsTiling, blocks_at, found_in, block_at, IsBlock, with_blocks, halves}
use Rattle.vx_arena.proofs.Heads.{length-written}
use Rattle.vx_arena.proofs.Placing.{Located, located, Wrote, wrote}
use Rattle.vx_arena.proofs.Writing.{found_cases, found_later, replaced_later, replaced_here, found_here, none_found}

abbrev pub head_bytes : ℕ → List ℕ
head_bytes len = to_le_bytes w32 len ++ to_le_bytes w32 0

-- the head of a new block stands inside the payload that is cut
abbrev pub with_head : Block → ℕ → ℕ → Block
with_head b len rest = record { live = b.live; payload = written b.payload len (head_bytes rest) }

abbrev whole_of : ℕ → Bool → List ℕ → List ℕ
whole_of len live payload = to_le_bytes w32 len ++ to_le_bytes w32 (cond live 1 0) ++ payload

pub cut_written : (b : Block) (len rest : ℕ) → len + 8 ≤ length b.payload → rest ≡ length b.payload - (len + 8) → bytes_of (halves b len) ≡ written (spelled (with_head b len rest)) 0 (to_le_bytes w32 len)
unfolding spelled
cut_written b len rest inside is =
    let t : List ℕ = take len b.payload in
    let d : List ℕ = drop (len + 8) b.payload in
    let near : length t ≡ len = length-take-le len b.payload (omega (arith, inside)) in
    let far : length d ≡ rest = length-drop (len + 8) b.payload ∙ sym is in
    ap (λ (m : ℕ). whole_of m b.live t ++ (whole_of (length d) false d ++ [])) near
    ∙ (ap (λ (m : ℕ). whole_of len b.live t ++ (whole_of m false d ++ [])) far
    ∙ (ap (λ (x : List ℕ). whole_of len b.live t ++ x) (append-nil (whole_of rest false d))
    ∙ ap (λ (x : List ℕ). whole_of len b.live x) (sym (append_assoc t (head_bytes rest) d))))

pub replaced_found : (blocks : List Block) (at : ℕ) (b c : Block) → found blocks at ≡ Some b → found (replaced blocks at (c ∷ [])) at ≡ Some c
replaced_found [] at b c is = absurd (none_found at b is)
replaced_found (x ∷ more) at b c is = elim (found_cases x more at b is) as (λ _. found (replaced (x ∷ more) at (c ∷ [])) at ≡ Some c) [
  | inl e ↦ subst (λ (n : ℕ). found (replaced (x ∷ more) n (c ∷ [])) n ≡ Some c) (sym e.0)
      (ap (λ (bs : List Block). found bs 0) (replaced_here x more (c ∷ [])) ∙ found_here c more)
  | inr later ↦
      let ge : size x ≤ at = later.0 in
      let ne : at ≡ 0 → ⊥ = λ e. omega (arith, ge, e) in
      ap (λ (bs : List Block). found bs at) (replaced_later x more at (c ∷ []) ne)
      ∙ (found_later x (replaced more (at - size x) (c ∷ [])) at ge ∙ replaced_found more (at - size x) b c later.1)
]

pub replaced_again : (blocks : List Block) (at : ℕ) (b c : Block) (new : List Block) → found blocks at ≡ Some b → replaced (replaced blocks at (c ∷ [])) at new ≡ replaced blocks at new
replaced_again [] at b c new is = absurd (none_found at b is)
replaced_again (x ∷ more) at b c new is = elim (found_cases x more at b is) as (λ _. replaced (replaced (x ∷ more) at (c ∷ [])) at new ≡ replaced (x ∷ more) at new) [
  | inl e ↦ subst (λ (n : ℕ). replaced (replaced (x ∷ more) n (c ∷ [])) n new ≡ replaced (x ∷ more) n new) (sym e.0)
      (ap (λ (bs : List Block). replaced bs 0 new) (replaced_here x more (c ∷ [])) ∙ (replaced_here c more new ∙ sym (replaced_here x more new)))
  | inr later ↦
      let ge : size x ≤ at = later.0 in
      let ne : at ≡ 0 → ⊥ = λ e. omega (arith, ge, e) in
      ap (λ (bs : List Block). replaced bs at new) (replaced_later x more at (c ∷ []) ne)
      ∙ (replaced_later x (replaced more (at - size x) (c ∷ [])) at new ne
      ∙ (ap (λ (bs : List Block). x ∷ bs) (replaced_again more (at - size x) b c new later.1) ∙ sym (replaced_later x more at new ne)))
]

pub block_chunk : (chunks : Chunks) (place : Place) (b : Block) → found_in chunks place ≡ Some b → place.chunk < length chunks
block_chunk chunks place b is = elim (cases_lt place.chunk (length chunks)) as (λ _. place.chunk < length chunks) [
  | inl lt ↦ lt
  | inr ge ↦ absurd (none_found place.at b (subst (λ (bs : List Block). found bs place.at ≡ Some b) (get_or_past chunks place.chunk [] ge) is))
]

pub found_again : (chunks : Chunks) (place : Place) (b c : Block) → found_in chunks place ≡ Some b → found_in (with_blocks chunks place (c ∷ [])) place ≡ Some c
found_again chunks place b c is =
    ap (λ (bs : List Block). found bs place.at) (get_or-set_same chunks place.chunk (replaced (blocks_at chunks place.chunk) place.at (c ∷ [])) [] (block_chunk chunks place b is))
    ∙ replaced_found (blocks_at chunks place.chunk) place.at b c is

with_again : (chunks : Chunks) (place : Place) (b c : Block) (new : List Block) → found_in chunks place ≡ Some b → with_blocks (with_blocks chunks place (c ∷ [])) place new ≡ with_blocks chunks place new
with_again chunks place b c new is =
    ap (λ (bs : List Block). set (with_blocks chunks place (c ∷ [])) place.chunk (replaced bs place.at new)) (get_or-set_same chunks place.chunk (replaced (blocks_at chunks place.chunk) place.at (c ∷ [])) [] (block_chunk chunks place b is))
    ∙ (set-set chunks place.chunk (replaced (blocks_at chunks place.chunk) place.at (c ∷ [])) (replaced (replaced (blocks_at chunks place.chunk) place.at (c ∷ [])) place.at new)
    ∙ ap (λ (bs : List Block). set chunks place.chunk bs) (replaced_again (blocks_at chunks place.chunk) place.at b c new is))

-- a region after its block's length was written, once the new block's head stands in its payload
pub record Cuts (region : RegionModel) (chunks : Chunks) (place : Place) (from : List ℕ) (len : ℕ) : Type 0 where
  pub tiling : IsTiling (set region place.chunk (written (chunk_at region place.chunk) place.at from))
  pub chunks_are : chunks_of (set region place.chunk (written (chunk_at region place.chunk) place.at from)) ≡ with_blocks chunks place (halves (block_at chunks place) len)

pub cuts : (region : RegionModel) (chunks after : Chunks) (place : Place) (len rest : ℕ) (from : List ℕ) → chunks_of region ≡ after → IsTiling region → IsBlock chunks place → after ≡ with_blocks chunks place (with_head (block_at chunks place) len rest ∷ []) → len + 8 ≤ length (block_at chunks place).payload → rest ≡ length (block_at chunks place).payload - (len + 8) → from ≡ to_le_bytes w32 len → Cuts region chunks place from len
cuts region chunks after place len rest from view tiling there headed inside is bytes =
    let b : Block = block_at chunks place in
    let c : Block = with_head b len rest in
    let now : chunks_of region ≡ with_blocks chunks place (c ∷ []) = view ∙ headed in
    let found : found_in (chunks_of region) place ≡ Some c = subst (λ (v : Chunks). found_in v place ≡ Some c) (sym now) (found_again chunks place b c there) in
    let at : Located region place c = located region place c tiling found in
    let same : length (written b.payload len (head_bytes rest)) ≡ length b.payload = length-written b.payload len (head_bytes rest) inside in
    let few : length c.payload < 2 ^ 32 = at.stands.short in
    let near : length (take len b.payload) ≡ len = length-take-le len b.payload (omega (arith, inside)) in
    let far : length (drop (len + 8) b.payload) ≡ length b.payload - (len + 8) = length-drop (len + 8) b.payload in
    let fits : 0 + length from ≤ size c = rw bytes (omega arith) in
    let spells : bytes_of (halves b len) ≡ written (spelled c) 0 from = subst (λ (f : List ℕ). bytes_of (halves b len) ≡ written (spelled c) 0 f) (sym bytes) (cut_written b len rest inside is) in
    let w : Wrote region place 0 from (halves b len) = wrote region place c (halves b len) 0 from tiling found fits spells (omega (arith, near, same, few, inside), (omega (arith, far, same, few), tt)) in
    let start : place.at + 0 ≡ place.at = omega arith in
    let same_chunks : with_blocks (chunks_of region) place (halves b len) ≡ with_blocks chunks place (halves b len) = ap (λ (v : Chunks). with_blocks v place (halves b len)) now ∙ with_again chunks place b c (halves b len) there in
    record {
      tiling = subst (λ (n : ℕ). IsTiling (set region place.chunk (written (chunk_at region place.chunk) n from))) start w.tiling;
      chunks_are = subst (λ (n : ℕ). chunks_of (set region place.chunk (written (chunk_at region place.chunk) n from)) ≡ with_blocks (chunks_of region) place (halves b len)) start w.chunks ∙ same_chunks;
    }

pub cut_inside : (region : RegionModel) (chunks after : Chunks) (place : Place) (len rest : ℕ) (from : List ℕ) → chunks_of region ≡ after → IsTiling region → IsBlock chunks place → after ≡ with_blocks chunks place (with_head (block_at chunks place) len rest ∷ []) → from ≡ to_le_bytes w32 len → IsInside region place (length from)
cut_inside region chunks after place len rest from view tiling there headed bytes =
    let c : Block = with_head (block_at chunks place) len rest in
    let found : found_in (chunks_of region) place ≡ Some c = subst (λ (v : Chunks). found_in v place ≡ Some c) (sym (view ∙ headed)) (found_again chunks place (block_at chunks place) c there) in
    let at : Located region place c = located region place c tiling found in
    let end : place.at + size c ≤ length (chunk_at region place.chunk) = at.stands.end in
    let four : length from ≡ 4 = ap length bytes in
    record { chunk = at.chunk; end = omega (arith, end, four) }
