use Rattle.std.proofs.Common.{◌≡◌, ◌+◌, ◌<◌, length, get_or, arith}
use Rattle.vx_pool.proofs.Laws.{IsLeaf-above}
use Rattle.vx_pool_rounds.proofs.rounds.run.Goals as goal

-- the numbers from 22 to 63 are above each parent's
pub round-requires-clause-leaf : goal.round-requires-clause-leaf
round-requires-clause-leaf c =
    let size : length c.loop-turn.tree.parents ≡ 63 = c.loop-turn.invariant.forest.size in
    IsLeaf-above c.loop-turn.tree.parents (22 + c.loop-turn.leaf) (omega arith)
    (λ i lt. let above : get_or c.loop-turn.tree.parents i 0 < 22 = c.loop-turn.invariant.forest.above i lt in omega arith)
