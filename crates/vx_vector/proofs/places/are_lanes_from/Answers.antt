use Rattle.std.proofs.Common.{◌≡◌, ◌∙◌, ◌+◌, ◌%◌, ◌^◌, ℕ, List, [], ◌∷◌, ap, ap₂, sym, arith, eqb, w32}
use Rattle.std.specs.Prelude.{not}
use lib.Lanes.{zip2, mask_l}
use Rattle.std.proofs.lemmas.Bool.{eqb-true}
use Rattle.std.proofs.lemmas.Simd.{tops_compared, mask_l-mod, length-zip2}
use Rattle.vx_vector.proofs.LaneLemmas.{differ_nowhere}
use Rattle.vx_vector.proofs.places.are_lanes_from.Goals as goal

pub returns : goal.returns
returns c h =
    let from = c.args.from in
    let lanes = c.args.lanes in
    let wanted : List ℕ = from ∷ (from + 1) ∷ (from + 2) ∷ (from + 3) ∷ [] in
    let few = length-zip2 (λ (a b : ℕ). not (eqb a b)) lanes wanted c.requires.lanes in
    let masked = ap (λ ms. mask_l ms % 2 ^ 64) (tops_compared w32 (λ (a b : ℕ). not (eqb a b)) lanes wanted) ∙ mask_l-mod (zip2 (λ (a b : ℕ). not (eqb a b)) lanes wanted) 64 (omega arith) in
    let third : from + 2 ≡ from + 1 + 1 = omega arith in
    let fourth : from + 3 ≡ from + 1 + 1 + 1 = omega arith in
    differ_nowhere lanes wanted c.requires.lanes (sym masked ∙ eqb-true _ _ h) ∙ ap₂ (λ (p q : ℕ). from ∷ (from + 1) ∷ p ∷ q ∷ []) third fourth
