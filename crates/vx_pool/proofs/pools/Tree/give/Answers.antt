use Rattle.std.proofs.Common.{◌≡◌, ◌-◌, ◌^◌, ◌≤◌, max, length, get_or, arith, sym, ap, ◌∙◌}
use Rattle.vx_pool.specs.Pools.{IsLeaf}
use Rattle.vx_pool.specs.Quantum.{quantum}
use Rattle.vx_pool.specs.Sums.{Moves}
use Rattle.vx_pool.proofs.Keeping.{leaf_seen, used_is, ahead_is, used_bounded, ahead_bounded, amount_fits, kept_given, written_through}
use Rattle.vx_pool.proofs.pools.Tree.give.Goals as goal

pub quantum-amount-requires-clause-fits : goal.quantum-amount-requires-clause-fits
quantum-amount-requires-clause-fits g c =
    let is_leaf : IsLeaf c.self.inside.parents.items c.args.leaf =
    leaf_seen _ c.args.self.now c.args.leaf c.self.view_is c.requires.leaf in
    let used : c.index.result.now ≤ 2 ^ 33 = used_bounded _ c.self.inside.reserved.items c.self.invariant c.args.leaf is_leaf _ c.index.ensures in
    let ahead : c.index-2.result.now ≤ 2 ^ 33 = ahead_bounded _ c.self.inside.reserved.items c.self.invariant c.args.leaf is_leaf _ c.index-2.ensures in
    let fits = amount_fits _ c.self.inside.reserved.items c.self.invariant c.args.leaf is_leaf c.max.result (omega (arith, c.max.ensures)) in
    omega (arith, fits)

pub set_path-requires-clause-fits : goal.set_path-requires-clause-fits
set_path-requires-clause-fits g c =
    let is_leaf : IsLeaf c.self.inside.parents.items c.args.leaf =
    leaf_seen _ c.args.self.now c.args.leaf c.self.view_is c.requires.leaf in
    let used : c.index.result.now ≤ 2 ^ 33 = used_bounded _ c.self.inside.reserved.items c.self.invariant c.args.leaf is_leaf _ c.index.ensures in
    let ahead : c.index-2.result.now ≤ 2 ^ 33 = ahead_bounded _ c.self.inside.reserved.items c.self.invariant c.args.leaf is_leaf _ c.index-2.ensures in
    rw (c.deref_mut.ensures.value, c.quantum-amount.ensures.is)
    (amount_fits _ c.self.inside.reserved.items c.self.invariant c.args.leaf is_leaf c.max.result (omega (arith, c.max.ensures)))

pub invariant_of-self : goal.invariant_of-self
invariant_of-self g c =
    let is_leaf : IsLeaf c.self.inside.parents.items c.args.leaf =
    leaf_seen _ c.args.self.now c.args.leaf c.self.view_is c.requires.leaf in
    let used : c.index.result.now ≡ get_or c.self.inside.used.items c.args.leaf 0 = used_is _ c.self.inside.reserved.items c.self.invariant c.args.leaf is_leaf _ c.index.ensures in
    let ahead : c.index-2.result.now ≡ get_or c.self.inside.ahead.items c.args.leaf 0 = ahead_is _ c.self.inside.reserved.items c.self.invariant c.args.leaf is_leaf _ c.index-2.ensures in
    let amount : c.quantum-amount.result ≡ quantum c.self.inside.unit (max (c.index.result.now - c.args.bytes) (get_or c.self.inside.ahead.items c.args.leaf 0)) =
    c.quantum-amount.ensures.is ∙ ap (λ n. quantum c.self.inside.unit n) (c.max.ensures ∙ ap (λ n. max (c.index.result.now - c.args.bytes) n) ahead) in
    let moves : Moves c.self.inside.parents.items c.self.inside.reserved.items c.set_path.new.sums c.args.leaf (quantum c.self.inside.unit (max (c.index.result.now - c.args.bytes) (get_or c.self.inside.ahead.items c.args.leaf 0))) =
    rw (← amount, ← c.deref.ensures.value, ← c.deref_mut.ensures.value) c.set_path.ensures in
    let size : c.self.inside.reserved.len ≡ length c.set_path.new.sums =
    sym (c.set_path.auto.sums ∙ c.deref_mut.ensures.len) in
    rw (written_through c.self.inside.reserved.len c.set_path.new.sums _ size)
    (kept_given _ c.self.inside.reserved.items c.self.invariant c.args.leaf (c.index.result.now - c.args.bytes) is_leaf c.set_path.new.sums (omega (arith, used)) moves)

pub returns-clause-rule : goal.returns-clause-rule
returns-clause-rule g c = (invariant_of-self g c).tree
