use Rattle.vx_pool.proofs.Keeping.{kept_empty}
use Rattle.vx_pool.proofs.pools.Tree.new.Goals as goal

pub invariant_of-result : goal.invariant_of-result
invariant_of-result g c =
    let parents = c.in_ok-to_vec.ensures.items_if_clones_equal (λ _ _ is. is) in
    let used = c.in_ok-vec.ensures.items_if_clones_equal (λ _ is. is) in
    let ahead = c.in_ok-vec-2.ensures.items_if_clones_equal (λ _ is. is) in
    let sums = c.in_ok-vec-3.ensures.items_if_clones_equal (λ _ is. is) in
    rw (parents, used, ahead, sums, c.whole.ensures) (kept_empty c.args.unit c.args.parents.now c.requires.unit c.requires.shape)

pub returns-clause-rule : goal.returns-clause-rule
returns-clause-rule g c = (invariant_of-result g c).tree
