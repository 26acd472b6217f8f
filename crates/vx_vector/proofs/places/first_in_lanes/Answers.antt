use Rattle.std.proofs.Common.{◌∙◌, ◌+◌, ◌≤◌, ◌++◌, length, ap₂, sym, refl, arith}
use Rattle.vx_vector.proofs.LaneLemmas.{take_further}
use Rattle.vx_vector.proofs.SelectionLemmas.{ranges_joined}
use Rattle.vx_vector.proofs.places.first_in_lanes.Goals as goal

pub loop-at-preserved : goal.loop-at-preserved
loop-at-preserved c =
    let at = c.loop-at.at in
    let within : at + 4 ≤ length c.args.places.now = omega arith in
    (within, take_further c.args.places.now at 4 within ∙ ap₂ (λ p q. p ++ q) c.loop-at.invariant.1 (c.are_lanes_from.ensures c.if-not-are_lanes_from.false) ∙ sym (ranges_joined 0 at 4 at (at + 4) (omega arith) refl))
