-- No move raises what may still be taken from a node, and rows that leave its hand lower it.
use Rattle.std.proofs.Common.{◌≡◌, ℕ, ◌+◌, ◌≤◌, arith}
use Rattle.vx_plan.specs.Tree.{Tree, values, over, join, id_of}
use Rattle.vx_rest.specs.Counts.{Counts, most, Count, CountsFit}

module _ (old new : Counts) (m : Count) (hands : (id : ℕ) → m.taken id + new.hand id ≡ old.hand id + m.put id) where
  pub most-falls : (t : Tree) → CountsFit old new m t → most new t + m.taken (id_of t) ≤ most old t
  most-falls (values id kinds all parallel) fits = let h = hands id in omega arith
  most-falls (over id own source) fits =
      let h = hands id in
      let below = most-falls source fits.0 in
      let here = fits.1 in
      omega arith
  most-falls (join id kind left_keys right_keys left right) fits =
      let h = hands id in
      let here = fits.2 (most old left) (most old right) (most new left) (most new right) (most-falls left fits.0) (most-falls right fits.1) in
      omega arith
