use Rattle.std.proofs.Common.{ℕ, ◌+◌, ◌≤◌, ap, ◌∙◌, arith, eqb}
use Rattle.vx_arena.specs.Block.{size}
use Rattle.vx_arena.specs.Chunks.{block_at}
use Rattle.vx_arena.proofs.Reading.{at_block, inside_block, live_read}
use Rattle.vx_arena.proofs.blocks.Blocks.is_live.Goals as goal

pub overflow_add-head : goal.overflow_add-head
overflow_add-head c =
    let within : c.args.at.at + size (block_at c.args.self.now c.args.at) ≤ 4096 = (at_block c.self.inside.region c.args.self.now c.args.at c.self.view_is c.self.invariant c.requires.there).within in
    omega (arith, within)

pub word-requires : goal.word-requires
word-requires c = inside_block c.self.inside.region c.args.at (block_at c.args.self.now c.args.at) 4 4 (at_block c.self.inside.region c.args.self.now c.args.at c.self.view_is c.self.invariant c.requires.there) (omega arith)

pub returns : goal.returns
returns c = ap (λ (n : ℕ). eqb n 1) c.word.ensures ∙ live_read c.self.inside.region c.args.at (block_at c.args.self.now c.args.at) (at_block c.self.inside.region c.args.self.now c.args.at c.self.view_is c.self.invariant c.requires.there)
