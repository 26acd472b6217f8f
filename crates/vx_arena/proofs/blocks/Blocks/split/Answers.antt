use Rattle.std.proofs.Common.{◌≡◌, ◌+◌, ◌-◌, ◌∙◌, [], ◌∷◌, ap, sym, subst, arith}
use Rattle.vx_raw.specs.Region.{written}
use Rattle.vx_arena.specs.Chunks.{Chunks, IsBlock, halves, chunks_of, block_at, with_blocks, IsTiling}
use Rattle.vx_arena.proofs.Surviving.{halves_stand}
use Rattle.vx_arena.proofs.Cutting.{cuts, cut_inside}
use Rattle.vx_arena.proofs.blocks.Blocks.split.Goals as goal

pub write-requires-2 : goal.write-requires-2
write-requires-2 c = cut_inside c.self.inside.region c.args.self.now c.write.new.self c.args.at c.args.len (c.len.result - c.args.len - 8) c.to_le_bytes.result c.self.view_is c.self.invariant c.requires.there (c.write.ensures.set ∙ (λ i. with_blocks c.args.self.now c.args.at (record { live = (block_at c.args.self.now c.args.at).live; payload = written (block_at c.args.self.now c.args.at).payload (c.from.ensures i) (c.head.ensures i) } ∷ []))) c.to_le_bytes.ensures

pub invariant_of-self : goal.invariant_of-self
invariant_of-self c = subst IsTiling (sym c.write-2.ensures) (cuts c.self.inside.region c.args.self.now c.write.new.self c.args.at c.args.len (c.len.result - c.args.len - 8) c.to_le_bytes.result c.self.view_is c.self.invariant c.requires.there (c.write.ensures.set ∙ (λ i. with_blocks c.args.self.now c.args.at (record { live = (block_at c.args.self.now c.args.at).live; payload = written (block_at c.args.self.now c.args.at).payload (c.from.ensures i) (c.head.ensures i) } ∷ []))) c.requires.inside (omega (arith, c.len.ensures)) c.to_le_bytes.ensures).tiling

pub returns-clause-set : goal.returns-clause-set
returns-clause-set c = ap chunks_of c.write-2.ensures ∙ (cuts c.self.inside.region c.args.self.now c.write.new.self c.args.at c.args.len (c.len.result - c.args.len - 8) c.to_le_bytes.result c.self.view_is c.self.invariant c.requires.there (c.write.ensures.set ∙ (λ i. with_blocks c.args.self.now c.args.at (record { live = (block_at c.args.self.now c.args.at).live; payload = written (block_at c.args.self.now c.args.at).payload (c.from.ensures i) (c.head.ensures i) } ∷ []))) c.requires.inside (omega (arith, c.len.ensures)) c.to_le_bytes.ensures).chunks_are

pub returns-clause-there : goal.returns-clause-there
returns-clause-there c =
    let after : chunks_of c.write-2.new.self ≡ with_blocks c.args.self.now c.args.at (halves (block_at c.args.self.now c.args.at) c.args.len) = ap chunks_of c.write-2.ensures ∙ (cuts c.self.inside.region c.args.self.now c.write.new.self c.args.at c.args.len (c.len.result - c.args.len - 8) c.to_le_bytes.result c.self.view_is c.self.invariant c.requires.there (c.write.ensures.set ∙ (λ i. with_blocks c.args.self.now c.args.at (record { live = (block_at c.args.self.now c.args.at).live; payload = written (block_at c.args.self.now c.args.at).payload (c.from.ensures i) (c.head.ensures i) } ∷ []))) c.requires.inside (omega (arith, c.len.ensures)) c.to_le_bytes.ensures).chunks_are in
    subst (λ (v : Chunks). IsBlock v c.args.at) (sym after) (halves_stand c.args.self.now c.args.at c.args.len c.requires.there c.requires.inside).first

pub returns-clause-rest : goal.returns-clause-rest
returns-clause-rest c =
    let after : chunks_of c.write-2.new.self ≡ with_blocks c.args.self.now c.args.at (halves (block_at c.args.self.now c.args.at) c.args.len) = ap chunks_of c.write-2.ensures ∙ (cuts c.self.inside.region c.args.self.now c.write.new.self c.args.at c.args.len (c.len.result - c.args.len - 8) c.to_le_bytes.result c.self.view_is c.self.invariant c.requires.there (c.write.ensures.set ∙ (λ i. with_blocks c.args.self.now c.args.at (record { live = (block_at c.args.self.now c.args.at).live; payload = written (block_at c.args.self.now c.args.at).payload (c.from.ensures i) (c.head.ensures i) } ∷ []))) c.requires.inside (omega (arith, c.len.ensures)) c.to_le_bytes.ensures).chunks_are in
    subst (λ (v : Chunks). IsBlock v (record { chunk = c.args.at.chunk; at = c.args.at.at + (8 + c.args.len) })) (sym after) (halves_stand c.args.self.now c.args.at c.args.len c.requires.there c.requires.inside).second
