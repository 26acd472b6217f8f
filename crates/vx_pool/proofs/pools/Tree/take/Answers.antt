use Rattle.std.proofs.Common.{◌≡◌, ◌+◌, ◌<◌, ◌≤◌, length, get_or, arith, sym, ap, ◌∙◌, subst}
use Rattle.vx_pool.specs.Pools.{Pools, IsLeaf, used_of, node_count, reserved_of}
use Rattle.vx_pool.proofs.Keeping.{leaf_seen, used_is, take_within, kept_taken, reserved_is}
use Rattle.vx_pool.proofs.pools.Tree.take.Goals as goal

pub overflow_add-index_mut : goal.overflow_add-index_mut
overflow_add-index_mut g c =
    let is_leaf : IsLeaf c.self.inside.parents.items c.args.leaf =
    leaf_seen _ c.args.self.now c.args.leaf c.self.view_is c.requires.leaf in
    let used : c.index_mut.result.now ≡ get_or c.self.inside.used.items c.args.leaf 0 = used_is _ c.self.inside.reserved.items c.self.invariant c.args.leaf is_leaf _ c.index_mut.ensures.value in
    let within = take_within _ c.self.inside.reserved.items c.self.invariant c.args.leaf c.index_mut.result.now c.args.bytes is_leaf used
    (subst (λ (pools : Pools). used_of pools c.args.leaf + c.args.bytes ≤ reserved_of pools c.args.leaf) (sym c.self.view_is) c.requires.room) in
    omega (arith, within.1)

pub invariant_of-self : goal.invariant_of-self
invariant_of-self g c =
    let is_leaf : IsLeaf c.self.inside.parents.items c.args.leaf =
    leaf_seen _ c.args.self.now c.args.leaf c.self.view_is c.requires.leaf in
    let used : c.index_mut.result.now ≡ get_or c.self.inside.used.items c.args.leaf 0 = used_is _ c.self.inside.reserved.items c.self.invariant c.args.leaf is_leaf _ c.index_mut.ensures.value in
    let within = take_within _ c.self.inside.reserved.items c.self.invariant c.args.leaf c.index_mut.result.now c.args.bytes is_leaf used
    (subst (λ (pools : Pools). used_of pools c.args.leaf + c.args.bytes ≤ reserved_of pools c.args.leaf) (sym c.self.view_is) c.requires.room) in
    kept_taken _ c.self.inside.reserved.items c.self.invariant c.args.leaf (c.index_mut.result.now + c.args.bytes) is_leaf (omega (arith, used)) within.0

pub returns-clause-rule : goal.returns-clause-rule
returns-clause-rule g c = (invariant_of-self g c).tree

pub returns-clause-keeps : goal.returns-clause-keeps
returns-clause-keeps g c =
    λ node there.
    let inside : node < length c.self.inside.parents.items + 1 =
    subst (λ (pools : Pools). node < node_count pools) (sym c.self.view_is) there in
    let before = reserved_is _ c.self.inside.reserved.items c.self.invariant node (omega arith) in
    let after = reserved_is _ c.self.inside.reserved.items (invariant_of-self g c) node (omega arith) in
    after ∙ sym before ∙ ap (λ (pools : Pools). reserved_of pools node) c.self.view_is
