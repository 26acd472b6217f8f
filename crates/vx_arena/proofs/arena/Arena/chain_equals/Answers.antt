use Rattle.std.proofs.Common.{refl, arith}
use Rattle.vx_arena.proofs.Walking.{compare_start, compare_end, compare_few, compare_less, compare_next, compare_false, not_true, left_live}
use Rattle.vx_arena.proofs.arena.Arena.chain_equals.Goals as goal

pub loop-block-init : goal.loop-block-init
loop-block-init c = compare_start c.args.self.now.chunks c.args.text.now c.args.len c.args.first c.requires

pub returns-then-name : goal.returns-then-name
returns-then-name c = compare_end c.args.self.now.chunks c.args.text.now c.loop-block.rest.now c.args.len c.loop-block.due c.args.first c.loop-block.name c.loop-block._block c.loop-block.invariant c.if-name.true c.is_empty.result c.is_empty.ensures

pub part-part-requires : goal.part-part-requires
part-part-requires c = left_live c.args.self.now.chunks c.loop-block.name c.loop-block._block c.loop-block.invariant.left c.if-name.false

pub next-name-requires : goal.next-name-requires
next-name-requires c = left_live c.args.self.now.chunks c.loop-block.name c.loop-block._block c.loop-block.invariant.left c.if-name.false

pub returns-then-not-same_front : goal.returns-then-not-same_front
returns-then-not-same_front c = compare_false (compare_less c.args.self.now.chunks c.args.text.now c.loop-block.rest.now c.args.len c.loop-block.due c.args.first c.loop-block.name c.loop-block._block c.loop-block.invariant c.part-part.result.now c.min-count.result c.if-name.false c.part-part.ensures c.min-count.ensures (λ e. not_true (c.if-not-same_front.ensures.1 e)))

pub loop-block-preserved : goal.loop-block-preserved
loop-block-preserved c = compare_next c.args.self.now.chunks c.args.text.now c.loop-block.rest.now c.args.len c.loop-block.due c.args.first c.loop-block.name c.loop-block._block c.loop-block.invariant c.part-part.result.now c.min-count.result c.if-name.false c.part-part.ensures c.min-count.ensures c.behind-rest.result.now c.next-name.result (c.if-not-same_front.ensures.0 refl) c.behind-rest.ensures c.next-name.ensures

pub returns-then-count-rest : goal.returns-then-count-rest
returns-then-count-rest c = compare_false (compare_few c.args.self.now.chunks c.args.text.now c.loop-block.rest.now c.args.len c.loop-block.due c.args.first c.loop-block.name c.loop-block._block c.loop-block.invariant c.part-part.result.now c.min-count.result c.if-name.false c.part-part.ensures c.min-count.ensures (omega (arith, c.if-count-rest.true)))
