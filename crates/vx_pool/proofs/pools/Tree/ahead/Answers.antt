use Rattle.std.proofs.Common.{◌≡◌, ◌^◌, ◌≤◌, max, length, get_or, arith, sym, ap, ◌∙◌}
use Rattle.vx_pool.specs.Pools.{Pools, IsLeaf}
use Rattle.vx_pool.specs.Quantum.{quantum}
use Rattle.vx_pool.specs.Sums.{Moves}
use Rattle.vx_pool.proofs.Keeping.{leaf_seen, used_is, used_bounded, amount_fits, explained, ahead_room, kept_reserved, written_through}
use Rattle.vx_pool.proofs.pools.Tree.ahead.Goals as goal

pub returns-then-would-capacity-clause-numbers : goal.returns-then-would-capacity-clause-numbers
returns-then-would-capacity-clause-numbers g c =
    explained _ c.self.inside.reserved.items c.self.invariant c.args.self.now c.self.view_is c.args.leaf c.args.bytes c.amount-capacity.result c.index.result.now c.would-would.result c.amount-capacity.ensures.is c.index.ensures c.would-would.ensures.is

pub quantum-amount-requires-clause-fits : goal.quantum-amount-requires-clause-fits
quantum-amount-requires-clause-fits g c =
    let is_leaf : IsLeaf c.self.inside.parents.items c.args.leaf =
    leaf_seen _ c.args.self.now c.args.leaf c.self.view_is c.requires.leaf in
    let used : c.index-2.result.now ≤ 2 ^ 33 = used_bounded _ c.self.inside.reserved.items c.self.invariant c.args.leaf is_leaf _ c.index-2.ensures in
    let fits = amount_fits _ c.self.inside.reserved.items c.self.invariant c.args.leaf is_leaf c.max.result (omega (arith, c.max.ensures, c.requires.bytes)) in
    omega (arith, fits)

pub set_path-requires-clause-fits : goal.set_path-requires-clause-fits
set_path-requires-clause-fits g c =
    let is_leaf : IsLeaf c.self.inside.parents.items c.args.leaf =
    leaf_seen _ c.args.self.now c.args.leaf c.self.view_is c.requires.leaf in
    let used : c.index-2.result.now ≤ 2 ^ 33 = used_bounded _ c.self.inside.reserved.items c.self.invariant c.args.leaf is_leaf _ c.index-2.ensures in
    rw (c.deref_mut.ensures.value, c.quantum-amount.ensures.is)
    (amount_fits _ c.self.inside.reserved.items c.self.invariant c.args.leaf is_leaf c.max.result (omega (arith, c.max.ensures, c.requires.bytes)))

pub invariant_of-self : goal.invariant_of-self
invariant_of-self g c =
    let is_leaf : IsLeaf c.self.inside.parents.items c.args.leaf =
    leaf_seen _ c.args.self.now c.args.leaf c.self.view_is c.requires.leaf in
    let used : c.index-2.result.now ≡ get_or c.self.inside.used.items c.args.leaf 0 = used_is _ c.self.inside.reserved.items c.self.invariant c.args.leaf is_leaf _ c.index-2.ensures in
    let amount : c.quantum-amount.result ≡ quantum c.self.inside.unit (max (get_or c.self.inside.used.items c.args.leaf 0) c.args.bytes) =
    c.quantum-amount.ensures.is ∙ ap (λ n. quantum c.self.inside.unit n) (c.max.ensures ∙ ap (λ n. max n c.args.bytes) used) in
    let moves : Moves c.self.inside.parents.items c.self.inside.reserved.items c.set_path.new.sums c.args.leaf c.quantum-amount.result =
    rw (← c.deref.ensures.value, ← c.deref_mut.ensures.value) c.set_path.ensures in
    let size : c.self.inside.reserved.len ≡ length c.set_path.new.sums =
    sym (c.set_path.auto.sums ∙ c.deref_mut.ensures.len) in
    rw (written_through c.self.inside.reserved.len c.set_path.new.sums _ size)
    (kept_reserved _ c.self.inside.reserved.items c.self.invariant c.args.self.now c.self.view_is c.args.leaf c.args.bytes c.would-would.result c.quantum-amount.result is_leaf c.would-would.ensures.is amount
    c.set_path.new.sums c.amount-capacity.result c.max-self-inside.result moves c.amount-capacity.ensures.is c.if-would-capacity.false c.max-self-inside.ensures)

pub returns-clause-rule : goal.returns-clause-rule
returns-clause-rule g c = (invariant_of-self g c).tree

pub returns-clause-room : goal.returns-clause-room
returns-clause-room g c =
    let is_leaf : IsLeaf c.self.inside.parents.items c.args.leaf =
    leaf_seen _ c.args.self.now c.args.leaf c.self.view_is c.requires.leaf in
    let seen : Pools = record {
      unit = c.self.inside.unit;
      parents = c.self.inside.parents.items;
      used = c.self.inside.used.items;
      ahead = c.self.inside.ahead.items;
      capacity = c.self.inside.capacity;
      peak = c.self.inside.peak;
    } in
    ahead_room seen c.args.leaf c.args.bytes c.max-self-inside.result _ c.self.invariant.tree.ahead is_leaf (invariant_of-self g c)
