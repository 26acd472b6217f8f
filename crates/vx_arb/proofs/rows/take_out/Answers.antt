use Rattle.std.proofs.Common.{◌≡◌, Some, None, sym, ◌∙◌, position, eqb}
use Rattle.vx_arb.specs.declared.rows.Live.{Live}
use Rattle.vx_arb.proofs.RowLemmas.{removed_found, absent, absent_without}
use Rattle.vx_arb.proofs.rows.take_out.Goals as goal

pub returns-in-Some : goal.returns-in-Some
returns-in-Some c =
    let at : position (λ (row : Live). eqb row.job c.args.job) c.args.live.now.items ≡ Some c.in-Some.place =
    rw (← c.deref.ensures.value) (sym c.place_of.ensures ∙ c.in-Some.is) in
    c.remove.ensures.items ∙ removed_found c.args.live.now.items c.args.job c.in-Some.place at

pub returns-in_default : goal.returns-in_default
returns-in_default c =
    let at : position (λ (row : Live). eqb row.job c.args.job) c.args.live.now.items ≡ None =
    rw (← c.deref.ensures.value) (sym c.place_of.ensures ∙ c.in_default.is) in
    sym (absent_without c.args.live.now.items c.args.job (absent c.args.live.now.items c.args.job at))
