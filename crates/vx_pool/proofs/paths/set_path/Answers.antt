use Rattle.std.proofs.Common.{◌≡◌, ◌≤◌, get_or, arith}
use Rattle.vx_pool.proofs.SumLemmas.{within_root}
use Rattle.vx_pool.proofs.Walks.{walks_on, walks_done}
use Rattle.vx_pool.proofs.paths.set_path.Goals as goal

-- no node on the path has been set before, and none has had more than the root
pub overflow_add-sums : goal.overflow_add-sums
overflow_add-sums c =
    let was : get_or c.loop-node.sums c.loop-node.node 0 ≡ get_or c.args.sums.now c.loop-node.node 0 =
    c.loop-node.invariant.above c.loop-node.node (omega arith) in
    let most : get_or c.args.sums.now c.loop-node.node 0 ≤ get_or c.args.sums.now 0 0 =
    within_root c.args.parents.now c.args.sums.now c.loop-node.node c.requires.shape c.requires.adds_up (omega arith) in
    omega arith

pub loop-node-preserved : goal.loop-node-preserved
loop-node-preserved c =
    walks_on c.args.parents.now c.args.sums.now c.loop-node.sums c.args.leaf c.args.amount c.loop-node.node c.requires.shape c.requires.leaf c.loop-node.invariant c.loop-node-test.true

pub returns : goal.returns
returns c =
    walks_done c.args.parents.now c.args.sums.now c.loop-node.sums c.args.leaf c.args.amount c.loop-node.node c.requires.shape c.requires.leaf c.loop-node.invariant c.loop-node-test.false
