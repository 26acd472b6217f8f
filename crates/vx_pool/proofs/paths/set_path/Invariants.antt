use Rattle.vx_pool.proofs.Walks.{Walks}
use Rattle.vx_pool.proofs.paths.set_path.Given as goal

abbrev pub invariant-loop-node : goal.invariant-loop-node
invariant-loop-node l = Walks l.parents l.fn.sums l.sums l.leaf l.amount l.node

abbrev pub decreases-loop-node : goal.decreases-loop-node
decreases-loop-node l = l.node
