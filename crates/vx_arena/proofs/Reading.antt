-- What is read at a block's place.
use Rattle.std.proofs.Common.{◌≡◌, ℕ, ◌+◌, ◌-◌, ◌≤◌, eqb, Some, List, ◌++◌, length, take, drop, sym, ap, ◌∙◌, subst, arith, w32}
use Rattle.std.proofs.lemmas.List.{take-append-le, drop-append-le, drop-drop, length-drop}
use Rattle.std.specs.Int.{from_le_bytes}
use Rattle.vx_raw.specs.Region.{RegionModel, chunk_at, IsInside}
use Rattle.vx_raw.specs.declared.place.Place.{Place}
use Rattle.vx_arena.specs.Block.{Block, size, spelled}
use Rattle.vx_arena.specs.Chunks.{Chunks, chunks_of, IsTiling, found_in, block_at, IsBlock}
use Rattle.vx_arena.proofs.Spelling.{spelled_length, spelled_live, spelled_payload}
use Rattle.vx_arena.proofs.Placing.{Located, located}

-- where a block of the chunks that contracts see stands in the region
pub at_block : (region : RegionModel) (chunks : Chunks) (place : Place) → chunks_of region ≡ chunks → IsTiling region → IsBlock chunks place → Located region place (block_at chunks place)
at_block region chunks place view tiling there =
    located region place (block_at chunks place) tiling (subst (λ (v : Chunks). found_in v place ≡ Some (block_at chunks place)) (sym view) there)

pub inside_head : (region : RegionModel) (place : Place) (b : Block) → Located region place b → IsInside region place 4
inside_head region place b at =
    let end : place.at + size b ≤ length (chunk_at region place.chunk) = at.stands.end in
    record { chunk = at.chunk; end = omega (arith, end) }

pub inside_block : (region : RegionModel) (place : Place) (b : Block) (off len : ℕ) → Located region place b → off + len ≤ size b → IsInside region (record { chunk = place.chunk; at = place.at + off }) len
inside_block region place b off len at fits =
    let end : place.at + size b ≤ length (chunk_at region place.chunk) = at.stands.end in
    record { chunk = at.chunk; end = omega (arith, end, fits) }

pub length_read : (region : RegionModel) (place : Place) (b : Block) → Located region place b → from_le_bytes w32 (drop place.at (chunk_at region place.chunk)) ≡ length b.payload
length_read region place b at =
    ap (from_le_bytes w32) at.stands.from ∙ spelled_length b (drop (place.at + size b) (chunk_at region place.chunk)) at.stands.short

from_block : (region : RegionModel) (place : Place) (b : Block) (off : ℕ) → Located region place b → drop (place.at + off) (chunk_at region place.chunk) ≡ drop off (spelled b ++ drop (place.at + size b) (chunk_at region place.chunk))
from_block region place b off at = sym (drop-drop off place.at (chunk_at region place.chunk)) ∙ ap (drop off) at.stands.from

pub live_read : (region : RegionModel) (place : Place) (b : Block) → Located region place b → eqb (from_le_bytes w32 (drop (place.at + 4) (chunk_at region place.chunk))) 1 ≡ b.live
live_read region place b at =
    ap (λ (t : List ℕ). eqb (from_le_bytes w32 t) 1) (from_block region place b 4 at) ∙ spelled_live b (drop (place.at + size b) (chunk_at region place.chunk))

pub payload_read : (region : RegionModel) (place : Place) (b : Block) (from len : ℕ) → Located region place b → from + len ≤ length b.payload → take len (drop (place.at + (8 + from)) (chunk_at region place.chunk)) ≡ take len (drop from b.payload)
payload_read region place b from len at inside =
    let rest : List ℕ = drop (place.at + size b) (chunk_at region place.chunk) in
    let near : from ≤ length b.payload = omega arith in
    let count : length (drop from b.payload) ≡ length b.payload - from = length-drop from b.payload in
    let some : len ≤ length (drop from b.payload) = omega (arith, count, inside) in
    ap (take len) (from_block region place b (8 + from) at
    ∙ (sym (drop-drop from 8 (spelled b ++ rest))
    ∙ (ap (drop from) (spelled_payload b rest) ∙ drop-append-le from b.payload rest near)))
    ∙ take-append-le len (drop from b.payload) rest some
