use Rattle.std.proofs.Common.{◌≡◌, ◌++◌, [], ◌∷◌, ℕ, List, length, ◌∙◌, ap, arith}
use Rattle.vx_arb.specs.declared.rows.Live.{Live}
use Rattle.vx_arb.specs.declared.rows.Admitted.{Admitted}
use Rattle.vx_arb.proofs.Turns.{admitted_kept}
use Rattle.vx_arb.proofs.arbiter.Arb.admit.Goals as goal

pub invariant_of-self-2 : goal.invariant_of-self-2
invariant_of-self-2 g c =
    let at : c.len-2.result ≡ length c.self.inside.log.items = omega (arith, c.len-2.ensures, c.in_ok-reserve.ensures.len) in
    admitted_kept _ c.args.self.now c.args.job c.args.max _ _ c.reserve.new.self.items c.push_reserved-2.new.self.items c.push_reserved.new.self.items
    c.self.view_is c.self.invariant c.requires.new c.requires.quiet
    (omega (arith, c.len.ensures, c.if-len-ge-MOST_JOBS.false)) (omega (arith, c.in_ok-reserve.ensures.ok)) c.in_ok-reserve.ensures.items
    (c.push_reserved-2.ensures.items ∙ ap (λ (rows : List Live). rows ++ record { job = c.args.job; max = c.args.max; capacity = 0 } ∷ []) c.in_ok-reserve-2.ensures.items)
    (c.push_reserved.ensures.items ∙ ap (λ (rows : List Admitted). rows ++ record { job = c.args.job; max = c.args.max; at = c.len-2.result } ∷ []) c.in_ok-reserve-3.ensures.items
    ∙ ap (λ (n : ℕ). c.self.inside.admitted.items ++ record { job = c.args.job; max = c.args.max; at = n } ∷ []) at)

pub returns-clause-rule : goal.returns-clause-rule
returns-clause-rule g c = (invariant_of-self-2 g c).rule
