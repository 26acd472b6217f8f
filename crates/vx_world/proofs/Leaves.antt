-- A tree of a root and one leaf: the root has what the leaf has.
use Rattle.std.proofs.Common.{◌≡◌, ℕ, ◌+◌, max, List, [], ◌∷◌, length, sym, ◌∙◌, ap, subst, arith}
use Rattle.std.proofs.lemmas.List.{get_or-set_same}
use Rattle.vx_pool.specs.Pools.{Pools, added_up, used_of, ahead_of, leaf_reserves, reserved_of, with_used}
use Rattle.vx_pool.specs.Quantum.{quantum}
use Rattle.vx_pool.proofs.QuantumLemmas.{quantum_none}
use Rattle.vx_world.specs.Plain.{emptied}
use Rattle.vx_world.specs.PlainRule.{IsSmall}

root_by : (own : ℕ → ℕ) (parents : List ℕ) → parents ≡ 0 ∷ [] → added_up own parents (length parents + 1) 0 ≡ own 1
root_by own parents shape = subst (λ (parents : List ℕ). added_up own parents (length parents + 1) 0 ≡ own 1) (sym shape) (omega arith)

root_is : (pools : Pools) → pools.parents ≡ 0 ∷ [] → reserved_of pools 0 ≡ quantum pools.unit (max (used_of pools 1) (ahead_of pools 1))
root_is pools shape = root_by (leaf_reserves pools) pools.parents shape

used_now : (pools : Pools) (bytes : ℕ) → IsSmall pools → used_of (with_used pools 1 bytes) 1 ≡ bytes
used_now pools bytes s =
    let two : length pools.used ≡ 2 = s.tree.used ∙ ap (λ (parents : List ℕ). length parents + 1) s.shape in
    get_or-set_same pools.used 1 bytes 0 (omega (arith, two))

-- once nothing is used or ahead nothing is reserved
pub emptied_none : (pools : Pools) → IsSmall pools → ahead_of pools 1 ≡ 0 → reserved_of (emptied pools) 0 ≡ 0
emptied_none pools s none =
    root_is (emptied pools) s.shape
    ∙ ap (λ n. quantum pools.unit n) (ap (λ n. max n (ahead_of pools 1)) (used_now pools 0 s) ∙ ap (λ n. max 0 n) none)
    ∙ quantum_none pools.unit (omega (arith, s.tree.unit.low))
