use Rattle.std.proofs.Common.{sym, ◌∙◌}
use Rattle.vx_arb.proofs.RowLemmas.{max_found, absent, absent_max}
use Rattle.vx_arb.proofs.rows.max_where_live.Goals as goal

pub returns-in-Some : goal.returns-in-Some
returns-in-Some c =
    max_found c.args.live.now c.args.job c.in-Some.place _ (sym c.place_of.ensures ∙ c.in-Some.is)

pub returns-in-None : goal.returns-in-None
returns-in-None c =
    sym (absent_max c.args.live.now c.args.job (absent c.args.live.now c.args.job (sym c.place_of.ensures ∙ c.in-None.is)))
