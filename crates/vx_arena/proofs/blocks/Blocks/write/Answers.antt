use Rattle.std.proofs.Common.{◌+◌, ◌≤◌, [], ◌∷◌, length, ap, ◌∙◌, sym, subst, arith, ◌≡◌}
use Rattle.vx_arena.specs.Block.{size}
use Rattle.vx_arena.specs.Chunks.{Chunks, chunks_of, block_at, with_blocks, IsTiling, IsBlock}
use Rattle.vx_raw.specs.Region.{written}
use Rattle.vx_arena.proofs.Reading.{at_block, inside_block}
use Rattle.vx_arena.proofs.Surviving.{still_there}
use Rattle.vx_arena.proofs.Changing.{wrote_payload}
use Rattle.vx_arena.proofs.blocks.Blocks.write.Goals as goal

pub overflow_add-start : goal.overflow_add-start
overflow_add-start c =
    let within : c.args.at.at + size (block_at c.args.self.now c.args.at) ≤ 4096 = (at_block c.self.inside.region c.args.self.now c.args.at c.self.view_is c.self.invariant c.requires.there).within in
    omega (arith, within, c.requires.inside)

pub overflow_add-start-2 : goal.overflow_add-start-2
overflow_add-start-2 c =
    let within : c.args.at.at + size (block_at c.args.self.now c.args.at) ≤ 4096 = (at_block c.self.inside.region c.args.self.now c.args.at c.self.view_is c.self.invariant c.requires.there).within in
    omega (arith, within, c.requires.inside)

pub write-requires : goal.write-requires
write-requires c = inside_block c.self.inside.region c.args.at (block_at c.args.self.now c.args.at) (8 + c.args.to) (length c.args.from.now) (at_block c.self.inside.region c.args.self.now c.args.at c.self.view_is c.self.invariant c.requires.there) (omega (arith, c.requires.inside))

pub invariant_of-self : goal.invariant_of-self
invariant_of-self c = subst IsTiling (sym c.write.ensures) (wrote_payload c.self.inside.region c.args.self.now c.args.at c.args.to c.args.from.now c.self.view_is c.self.invariant c.requires.there c.requires.inside).tiling

pub returns-clause-set : goal.returns-clause-set
returns-clause-set c = ap chunks_of c.write.ensures
    ∙ ((wrote_payload c.self.inside.region c.args.self.now c.args.at c.args.to c.args.from.now c.self.view_is c.self.invariant c.requires.there c.requires.inside).chunks
    ∙ ap (λ (v : Chunks). with_blocks v c.args.at (record { live = (block_at c.args.self.now c.args.at).live; payload = written (block_at c.args.self.now c.args.at).payload c.args.to c.args.from.now } ∷ [])) c.self.view_is)

pub returns-clause-there : goal.returns-clause-there
returns-clause-there c =
    let after : chunks_of c.write.new.self ≡ with_blocks c.args.self.now c.args.at ((record { live = (block_at c.args.self.now c.args.at).live; payload = written (block_at c.args.self.now c.args.at).payload c.args.to c.args.from.now }) ∷ []) = ap chunks_of c.write.ensures
    ∙ ((wrote_payload c.self.inside.region c.args.self.now c.args.at c.args.to c.args.from.now c.self.view_is c.self.invariant c.requires.there c.requires.inside).chunks
    ∙ ap (λ (v : Chunks). with_blocks v c.args.at (record { live = (block_at c.args.self.now c.args.at).live; payload = written (block_at c.args.self.now c.args.at).payload c.args.to c.args.from.now } ∷ [])) c.self.view_is) in
    subst (λ (v : Chunks). IsBlock v c.args.at) (sym after) (still_there c.args.self.now c.args.at (record { live = (block_at c.args.self.now c.args.at).live; payload = written (block_at c.args.self.now c.args.at).payload c.args.to c.args.from.now }) c.requires.there)
