use Rattle.std.proofs.Common.{length, sym, subst, ◌≡◌, ◌∙◌, ap, refl, arith}
use Rattle.vx_raw.specs.Region.{RegionModel, bytes_held, after_write}
use Rattle.vx_arena.specs.Chunks.{Chunks, chunks_of, IsBlock, held_by, with_chunk}
use Rattle.std.proofs.lemmas.List.{length-map}
use Rattle.vx_arena.specs.Block.{blocks_in}
use Rattle.vx_arena.proofs.Surviving.{added_there}
use Rattle.vx_arena.proofs.Adding.{adds, held_same}
use Rattle.vx_arena.proofs.blocks.Blocks.add.Goals as goal

pub grow-requires-clause-room : goal.grow-requires-clause-room
grow-requires-clause-room c =
    let count : bytes_held c.self.inside.region ≡ held_by c.args.self.now = held_same c.self.inside.region c.self.invariant ∙ ap held_by c.self.view_is in
    omega (arith, count, c.requires.room)

pub invariant_of-self-2 : goal.invariant_of-self-2
invariant_of-self-2 c = (adds c.self.inside.region c.write.new.self c.in_ok-chunk.chunk 4096 c.head.result c.self.invariant c.in_ok-chunk.ensures.number refl c.head.ensures (c.write.ensures ∙ ap (λ (r : RegionModel). after_write r (record { chunk = c.in_ok-chunk.chunk; at = 0 }) c.head.result) c.in_ok-chunk.ensures.ok)).tiling

pub returns-clause-ok : goal.returns-clause-ok
returns-clause-ok c = (adds c.self.inside.region c.write.new.self c.in_ok-chunk.chunk 4096 c.head.result c.self.invariant c.in_ok-chunk.ensures.number refl c.head.ensures (c.write.ensures ∙ ap (λ (r : RegionModel). after_write r (record { chunk = c.in_ok-chunk.chunk; at = 0 }) c.head.result) c.in_ok-chunk.ensures.ok)).chunks ∙ ap with_chunk c.self.view_is

pub returns-clause-there : goal.returns-clause-there
returns-clause-there c =
    let after : chunks_of c.write.new.self ≡ with_chunk c.args.self.now = (adds c.self.inside.region c.write.new.self c.in_ok-chunk.chunk 4096 c.head.result c.self.invariant c.in_ok-chunk.ensures.number refl c.head.ensures (c.write.ensures ∙ ap (λ (r : RegionModel). after_write r (record { chunk = c.in_ok-chunk.chunk; at = 0 }) c.head.result) c.in_ok-chunk.ensures.ok)).chunks ∙ ap with_chunk c.self.view_is in
    let number : c.in_ok-chunk.chunk ≡ length c.args.self.now = c.in_ok-chunk.ensures.number ∙ (sym (length-map c.self.inside.region blocks_in) ∙ ap length c.self.view_is) in
    subst (λ (v : Chunks). IsBlock v (record { chunk = c.in_ok-chunk.chunk; at = 0 })) (sym after) (added_there c.args.self.now c.in_ok-chunk.chunk number)
