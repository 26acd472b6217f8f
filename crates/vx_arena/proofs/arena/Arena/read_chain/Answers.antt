use Rattle.vx_arena.proofs.Walking.{read_start, read_end, left_live, read_next}
use Rattle.vx_arena.proofs.arena.Arena.read_chain.Goals as goal

pub loop-block-init : goal.loop-block-init
loop-block-init c = read_start c.args.self.now.chunks c.args.into.now.items c.args.len c.args.first c.requires

pub returns-then-name-clause-ok : goal.returns-then-name-clause-ok
returns-then-name-clause-ok c = read_end c.args.self.now.chunks c.args.into.now.items c.loop-block.into.items c.args.len c.loop-block.due c.args.first c.loop-block.name c.loop-block._block c.loop-block.invariant c.if-name.true

pub part-part-requires : goal.part-part-requires
part-part-requires c = left_live c.args.self.now.chunks c.loop-block.name c.loop-block._block c.loop-block.invariant.left c.if-name.false

pub next-name-requires : goal.next-name-requires
next-name-requires c = left_live c.args.self.now.chunks c.loop-block.name c.loop-block._block c.loop-block.invariant.left c.if-name.false

pub loop-block-preserved : goal.loop-block-preserved
loop-block-preserved c = read_next c.args.self.now.chunks c.args.into.now.items c.loop-block.into.items c.extend_from_slice.new.self.items c.part-part.result.now c.args.len c.loop-block.due c.args.first c.loop-block.name c.next-name.result c.loop-block._block c.min-count.result c.loop-block.invariant c.if-name.false c.part-part.ensures c.min-count.ensures c.in_ok-extend_from_slice.ensures.items c.next-name.ensures
