use Rattle.std.proofs.Common.{◌≡◌, ◌-◌, arith, subst, refl}
use Rattle.vx_pool.specs.Pools.{Pools, unused_of}
use Rattle.vx_pool.proofs.Keeping.{sum_is}
use Rattle.vx_pool.proofs.pools.Tree.unused.Goals as goal

pub overflow_sub-result : goal.overflow_sub-result
overflow_sub-result g c =
    let root = sum_is _ c.self.inside.reserved.items c.self.invariant 0 _ (omega arith) c.index.ensures in
    let within = c.self.invariant.tree.within in
    omega (arith, root, within, c.amount.ensures.is)

pub returns-clause-is : goal.returns-clause-is
returns-clause-is g c =
    subst (λ (pools : Pools). c.amount.result - c.index.result.now ≡ unused_of pools) c.self.view_is
    (let root = sum_is _ c.self.inside.reserved.items c.self.invariant 0 _ (omega arith) c.index.ensures in
    rw (← root, ← c.amount.ensures.is) refl)
