-- What each call that changes a block writes.
use Rattle.std.proofs.Common.{◌≡◌, ℕ, ◌+◌, ◌^◌, ◌<◌, ◌≤◌, Bool, Some, List, [], ◌∷◌, length, sym, subst, arith, w32, cond}
use Rattle.std.specs.Int.{to_le_bytes}
use Rattle.vx_raw.specs.Region.{RegionModel, written}
use Rattle.vx_raw.specs.declared.place.Place.{Place}
use Rattle.vx_arena.specs.Block.{Block, size, spelled, bytes_of}
use Rattle.vx_arena.specs.Chunks.{Chunks, chunks_of, IsTiling, found_in, block_at, IsBlock}
use Rattle.vx_arena.proofs.Heads.{live_written, payload_written, length-written}
use Rattle.vx_arena.proofs.Placing.{Located, Wrote, wrote}
use Rattle.vx_arena.proofs.Reading.{at_block}

found_there : (region : RegionModel) (chunks : Chunks) (place : Place) → chunks_of region ≡ chunks → IsBlock chunks place → found_in (chunks_of region) place ≡ Some (block_at chunks place)
found_there region chunks place view there = subst (λ (v : Chunks). found_in v place ≡ Some (block_at chunks place)) (sym view) there

pub flag_fits : (b : Block) (live : Bool) (from : List ℕ) → from ≡ to_le_bytes w32 (cond live 1 0) → 4 + length from ≤ size b
flag_fits b live from is = rw is (omega arith)

pub wrote_live : (region : RegionModel) (chunks : Chunks) (place : Place) (live : Bool) (from : List ℕ) → chunks_of region ≡ chunks → IsTiling region → IsBlock chunks place → from ≡ to_le_bytes w32 (cond live 1 0) → Wrote region place 4 from (record { live = live; payload = (block_at chunks place).payload } ∷ [])
wrote_live region chunks place live from view tiling there is =
    let at : Located region place (block_at chunks place) = at_block region chunks place view tiling there in
    let b : Block = block_at chunks place in
    let spells : bytes_of (record { live = live; payload = b.payload } ∷ []) ≡ written (spelled b) 4 from =
    subst (λ (f : List ℕ). bytes_of (record { live = live; payload = b.payload } ∷ []) ≡ written (spelled b) 4 f) (sym is) (live_written b live) in
    wrote region place b (record { live = live; payload = b.payload } ∷ []) 4 from tiling (found_there region chunks place view there) (flag_fits b live from is) spells (at.stands.short, tt)

pub wrote_payload : (region : RegionModel) (chunks : Chunks) (place : Place) (to : ℕ) (from : List ℕ) → chunks_of region ≡ chunks → IsTiling region → IsBlock chunks place → to + length from ≤ length (block_at chunks place).payload → Wrote region place (8 + to) from (record { live = (block_at chunks place).live; payload = written (block_at chunks place).payload to from } ∷ [])
wrote_payload region chunks place to from view tiling there inside =
    let at : Located region place (block_at chunks place) = at_block region chunks place view tiling there in
    let b : Block = block_at chunks place in
    let same : length (written b.payload to from) ≡ length b.payload = length-written b.payload to from inside in
    let few : length b.payload < 2 ^ 32 = at.stands.short in
    wrote region place b (record { live = b.live; payload = written b.payload to from } ∷ []) (8 + to) from tiling (found_there region chunks place view there) (omega (arith, inside)) (payload_written b to from inside) (omega (arith, same, few), tt)
