use Rattle.std.proofs.Common.{◌≡◌, ◌+◌, ◌<◌, length, arith, sym, subst}
use Rattle.vx_pool.specs.Pools.{Pools, node_count, reserved_of}
use Rattle.vx_pool.proofs.Keeping.{sum_is}
use Rattle.vx_pool.proofs.pools.Tree.reserved.Goals as goal

pub returns-clause-is : goal.returns-clause-is
returns-clause-is g c =
    let there : c.args.node < length c.self.inside.parents.items + 1 =
    subst (λ (pools : Pools). c.args.node < node_count pools) (sym c.self.view_is) c.requires in
    subst (λ (pools : Pools). c.index.result.now ≡ reserved_of pools c.args.node) c.self.view_is
    (sum_is _ c.self.inside.reserved.items c.self.invariant c.args.node _ (omega arith) c.index.ensures)
