use Rattle.std.proofs.Common.{sym, ◌∙◌}
use Rattle.vx_arb.proofs.RowLemmas.{capacity_found, absent, absent_capacity}
use Rattle.vx_arb.proofs.rows.capacity_in.Goals as goal

pub returns-in-Some : goal.returns-in-Some
returns-in-Some c =
    capacity_found c.args.live.now c.args.job c.in-Some.place _ (sym c.place_of.ensures ∙ c.in-Some.is)

pub returns-in-None : goal.returns-in-None
returns-in-None c =
    sym (absent_capacity c.args.live.now c.args.job (absent c.args.live.now c.args.job (sym c.place_of.ensures ∙ c.in-None.is)))
