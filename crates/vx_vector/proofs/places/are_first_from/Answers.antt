use Rattle.std.proofs.Common.{◌≡◌, ◌∙◌, ◌++◌, ◌∷◌, [], length, get_or, ap₂, sym, arith}
use Rattle.std.proofs.lemmas.List.{take_more}
use Rattle.std.proofs.lemmas.Bool.{false≢true}
use Rattle.vx_vector.proofs.SelectionLemmas.{range_more, own_place}
use Rattle.vx_vector.proofs.places.are_first_from.Goals as goal

pub returns-then-places-row : goal.returns-then-places-row
returns-then-places-row c = (λ h. absurd (false≢true h), λ e. absurd (omega (arith, own_place c.args.places.now (length c.args.places.now) e c.loop-row.row (omega arith))))

pub loop-row-preserved : goal.loop-row-preserved
loop-row-preserved c =
    let places = c.args.places.now in
    let at = c.loop-row.row in
    let same : get_or places at 0 ≡ at = omega arith in
    take_more places at 0 (omega arith) ∙ ap₂ (λ p x. p ++ x ∷ []) c.loop-row.invariant same ∙ sym (range_more 0 at at (omega arith))
