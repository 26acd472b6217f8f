use Rattle.std.proofs.Common.{◌+◌, ◌≤◌, ◌∙◌, arith}
use Rattle.vx_arena.specs.Block.{size}
use Rattle.vx_arena.specs.Chunks.{block_at}
use Rattle.vx_arena.proofs.Reading.{at_block, inside_block, payload_read}
use Rattle.vx_arena.proofs.blocks.Blocks.payload.Goals as goal

pub overflow_add-start : goal.overflow_add-start
overflow_add-start c =
    let within : c.args.at.at + size (block_at c.args.self.now c.args.at) ≤ 4096 = (at_block c.self.inside.region c.args.self.now c.args.at c.self.view_is c.self.invariant c.requires.there).within in
    omega (arith, within, c.requires.inside)

pub overflow_add-start-2 : goal.overflow_add-start-2
overflow_add-start-2 c =
    let within : c.args.at.at + size (block_at c.args.self.now c.args.at) ≤ 4096 = (at_block c.self.inside.region c.args.self.now c.args.at c.self.view_is c.self.invariant c.requires.there).within in
    omega (arith, within, c.requires.inside)

pub bytes-requires : goal.bytes-requires
bytes-requires c = inside_block c.self.inside.region c.args.at (block_at c.args.self.now c.args.at) (8 + c.args.from) c.args.len (at_block c.self.inside.region c.args.self.now c.args.at c.self.view_is c.self.invariant c.requires.there) (omega (arith, c.requires.inside))

pub returns : goal.returns
returns c = c.bytes.ensures ∙ payload_read c.self.inside.region c.args.at (block_at c.args.self.now c.args.at) c.args.from c.args.len (at_block c.self.inside.region c.args.self.now c.args.at c.self.view_is c.self.invariant c.requires.there) c.requires.inside
