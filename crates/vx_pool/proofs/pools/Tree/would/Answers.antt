use Rattle.std.proofs.Common.{◌≡◌, ◌+◌, ◌^◌, ◌<◌, ◌≤◌, max, arith, ap, ◌∙◌, refl}
use Rattle.vx_pool.specs.Pools.{IsLeaf}
use Rattle.vx_pool.specs.Quantum.{quantum}
use Rattle.vx_pool.proofs.Keeping.{leaf_seen, used_bounded, amount_fits, was_within, would_fits, would_seen}
use Rattle.vx_pool.proofs.pools.Tree.would.Goals as goal

pub overflow_sub-result : goal.overflow_sub-result
overflow_sub-result g c =
    let is_leaf : IsLeaf c.self.inside.parents.items c.args.leaf =
    leaf_seen _ c.args.self.now c.args.leaf c.self.view_is c.requires.leaf in
    was_within _ c.self.inside.reserved.items c.self.invariant c.args.leaf c.args.bytes c.index.result.now c.index-2.result.now c.index-3.result.now (quantum c.self.inside.unit (max c.index.result.now c.args.bytes)) is_leaf c.index.ensures c.index-2.ensures c.index-3.ensures refl

pub quantum-requires-clause-fits : goal.quantum-requires-clause-fits
quantum-requires-clause-fits g c =
    let is_leaf : IsLeaf c.self.inside.parents.items c.args.leaf =
    leaf_seen _ c.args.self.now c.args.leaf c.self.view_is c.requires.leaf in
    let used : c.index.result.now ≤ 2 ^ 33 = used_bounded _ c.self.inside.reserved.items c.self.invariant c.args.leaf is_leaf _ c.index.ensures in
    let fits = amount_fits _ c.self.inside.reserved.items c.self.invariant c.args.leaf is_leaf c.max-wanted.result (omega (arith, c.max-wanted.ensures, c.requires.bytes)) in
    omega (arith, fits)

pub overflow_add-result : goal.overflow_add-result
overflow_add-result g c =
    let is_leaf : IsLeaf c.self.inside.parents.items c.args.leaf =
    leaf_seen _ c.args.self.now c.args.leaf c.self.view_is c.requires.leaf in
    let amount : c.quantum.result ≡ quantum c.self.inside.unit (max c.index.result.now c.args.bytes) =
    c.quantum.ensures.is ∙ ap (λ n. quantum c.self.inside.unit n) c.max-wanted.ensures in
    let fits : c.index-2.result.now + c.quantum.result < 2 ^ 64 =
    would_fits _ c.self.inside.reserved.items c.self.invariant c.args.leaf c.args.bytes c.index.result.now c.index-2.result.now c.index-3.result.now c.quantum.result is_leaf c.index.ensures c.index-2.ensures c.index-3.ensures amount c.requires.bytes in
    omega (arith, fits)

pub returns-clause-is : goal.returns-clause-is
returns-clause-is g c =
    let is_leaf : IsLeaf c.self.inside.parents.items c.args.leaf =
    leaf_seen _ c.args.self.now c.args.leaf c.self.view_is c.requires.leaf in
    let amount : c.quantum.result ≡ quantum c.self.inside.unit (max c.index.result.now c.args.bytes) =
    c.quantum.ensures.is ∙ ap (λ n. quantum c.self.inside.unit n) c.max-wanted.ensures in
    would_seen _ c.self.inside.reserved.items c.self.invariant c.args.leaf c.args.bytes c.index.result.now c.index-2.result.now c.index-3.result.now c.quantum.result is_leaf c.index.ensures c.index-2.ensures c.index-3.ensures amount c.args.self.now c.self.view_is
