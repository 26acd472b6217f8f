use Rattle.std.proofs.Common.{◌≡◌, ◌+◌, ◌≤◌, length, arith, ◌∙◌}
use Rattle.vx_arena.specs.Block.{size}
use Rattle.vx_arena.proofs.Placing.{Located}
use Rattle.vx_arena.specs.Chunks.{block_at}
use Rattle.vx_arena.proofs.Reading.{at_block, inside_head, length_read}
use Rattle.vx_arena.proofs.blocks.Blocks.len.Goals as goal

pub word-requires : goal.word-requires
word-requires c = inside_head c.self.inside.region c.args.at (block_at c.args.self.now c.args.at) (at_block c.self.inside.region c.args.self.now c.args.at c.self.view_is c.self.invariant c.requires.there)

pub returns-clause-len : goal.returns-clause-len
returns-clause-len c = c.word.ensures ∙ length_read c.self.inside.region c.args.at (block_at c.args.self.now c.args.at) (at_block c.self.inside.region c.args.self.now c.args.at c.self.view_is c.self.invariant c.requires.there)

pub returns-clause-within : goal.returns-clause-within
returns-clause-within c =
    let at : Located c.self.inside.region c.args.at (block_at c.args.self.now c.args.at) = at_block c.self.inside.region c.args.self.now c.args.at c.self.view_is c.self.invariant c.requires.there in
    let within : c.args.at.at + size (block_at c.args.self.now c.args.at) ≤ 4096 = at.within in
    let is : c.word.result ≡ length (block_at c.args.self.now c.args.at).payload = c.word.ensures ∙ length_read c.self.inside.region c.args.at (block_at c.args.self.now c.args.at) at in
    omega (arith, within, is)
