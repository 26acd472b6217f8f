use Rattle.std.proofs.Common.{◌≡◌, Some, None, sym, ◌∙◌, position, eqb}
use Rattle.vx_arb.specs.declared.rows.Live.{Live}
use Rattle.vx_arb.proofs.RowLemmas.{set_read, absent, absent_set}
use Rattle.vx_arb.proofs.rows.set_capacity.Goals as goal

pub returns-in-Some : goal.returns-in-Some
returns-in-Some c =
    let at : position (λ (row : Live). eqb row.job c.args.job) c.args.live.now.items ≡ Some c.in-Some.place =
    rw (← c.deref.ensures.value) (sym c.place_of.ensures ∙ c.in-Some.is) in
    set_read c.args.live.now.items c.args.job c.args.capacity c.in-Some.place c.index_mut.result.now c.index_mut.ensures.value at

pub returns-in_default : goal.returns-in_default
returns-in_default c =
    let at : position (λ (row : Live). eqb row.job c.args.job) c.args.live.now.items ≡ None =
    rw (← c.deref.ensures.value) (sym c.place_of.ensures ∙ c.in_default.is) in
    sym (absent_set c.args.live.now.items c.args.job c.args.capacity (absent c.args.live.now.items c.args.job at))
