-- What stands at a place of a region, and what a write inside one block does to the chunks.
use Rattle.std.proofs.Common.{inl, inr, ◌≡◌, ℕ, ◌+◌, ◌<◌, ◌≤◌, Some, List, [], length, get_or, set, refl, ◌∙◌, subst, arith}
use Rattle.std.proofs.lemmas.Bool.{cases_eq, cases_lt}
use Rattle.std.proofs.lemmas.List.{get_or-map, get_or_past, get_or-set_same, get_or-set_other, map-set, length-map}
use Rattle.vx_raw.specs.Region.{RegionModel, chunk_at, written}
use Rattle.vx_raw.specs.declared.place.Place.{Place}
use Rattle.vx_arena.specs.Block.{Block, size, spelled, bytes_of, blocks_in, found, AreShort}
use Rattle.vx_arena.specs.Chunks.{chunks_of, IsTiling, IsWhole, blocks_at, found_in, with_blocks}
use Rattle.vx_arena.proofs.Writing.{Stands, stands, Puts, puts, none_found}
use Rattle.vx_arena.proofs.Heads.{length-written}

-- where a block stands in a region
pub record Located (region : RegionModel) (place : Place) (b : Block) : Type 0 where
  pub chunk : place.chunk < length region
  pub is : found (blocks_in (chunk_at region place.chunk)) place.at ≡ Some b
  pub stands : Stands (chunk_at region place.chunk) place.at b
  pub within : place.at + size b ≤ 4096

blocks_of : (region : RegionModel) (number : ℕ) → number < length region → blocks_at (chunks_of region) number ≡ blocks_in (chunk_at region number)
blocks_of region number lt = get_or-map blocks_in region number [] [] lt

pub located : (region : RegionModel) (place : Place) (b : Block) → IsTiling region → found_in (chunks_of region) place ≡ Some b → Located region place b
located region place b tiling is = elim (cases_lt place.chunk (length region)) as (λ _. Located region place b) [
  | inl lt ↦
      let there : found (blocks_in (chunk_at region place.chunk)) place.at ≡ Some b =
      subst (λ (bs : List Block). found bs place.at ≡ Some b) (blocks_of region place.chunk lt) is in
      let at : Stands (chunk_at region place.chunk) place.at b = stands (chunk_at region place.chunk) place.at b (tiling place.chunk).tiled there in
      let end : place.at + size b ≤ length (chunk_at region place.chunk) = at.end in
      let few : length (chunk_at region place.chunk) ≤ 4096 = (tiling place.chunk).within in
      record { chunk = lt; is = there; stands = at; within = omega (arith, end, few) }
  | inr ge ↦
      let past : length (chunks_of region) ≤ place.chunk = rw (length-map region blocks_in) ge in
      let none : found [] place.at ≡ Some b = subst (λ (bs : List Block). found bs place.at ≡ Some b) (get_or_past (chunks_of region) place.chunk [] past) is in
      absurd (none_found place.at b none)
]

-- a region after a write inside a block
pub record Wrote (region : RegionModel) (place : Place) (off : ℕ) (from : List ℕ) (new : List Block) : Type 0 where
  pub tiling : IsTiling (set region place.chunk (written (chunk_at region place.chunk) (place.at + off) from))
  pub chunks : chunks_of (set region place.chunk (written (chunk_at region place.chunk) (place.at + off) from)) ≡ with_blocks (chunks_of region) place new

set_tiling : (region : RegionModel) (number : ℕ) (bytes : List ℕ) → IsTiling region → number < length region → IsWhole bytes → IsTiling (set region number bytes)
set_tiling region number bytes tiling lt tiled k = elim (cases_eq k number) as (λ _. IsWhole (get_or (set region number bytes) k [])) [
  | inl e ↦ rw e (rw (get_or-set_same region number bytes [] lt) tiled)
  | inr ne ↦ rw (get_or-set_other region number k bytes [] ne) (tiling k)
]

pub wrote : (region : RegionModel) (place : Place) (b : Block) (new : List Block) (off : ℕ) (from : List ℕ) → IsTiling region → found_in (chunks_of region) place ≡ Some b → off + length from ≤ size b → bytes_of new ≡ written (spelled b) off from → AreShort new → Wrote region place off from new
wrote region place b new off from tiling is inside spells short =
    let at : Located region place b = located region place b tiling is in
    let put : Puts (chunk_at region place.chunk) place.at off from new = puts (chunk_at region place.chunk) place.at b new off from (tiling place.chunk).tiled at.is inside spells short in
    let end : place.at + size b ≤ length (chunk_at region place.chunk) = at.stands.end in
    let same : length (written (chunk_at region place.chunk) (place.at + off) from) ≡ length (chunk_at region place.chunk) = length-written (chunk_at region place.chunk) (place.at + off) from (omega (arith, end, inside)) in
    let few : length (chunk_at region place.chunk) ≤ 4096 = (tiling place.chunk).within in
    record {
      tiling = set_tiling region place.chunk (written (chunk_at region place.chunk) (place.at + off) from) tiling at.chunk (record { tiled = put.tiled; within = omega (arith, same, few) });
      chunks = map-set blocks_in region place.chunk (written (chunk_at region place.chunk) (place.at + off) from) ∙ (rw put.blocks (rw (blocks_of region place.chunk at.chunk) refl));
    }
