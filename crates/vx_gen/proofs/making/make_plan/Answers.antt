use Rattle.vx_gen.proofs.CheckedLaw.{checked_root}
use Rattle.vx_gen.proofs.making.make_plan.Goals as goal

pub returns-clause-checked : goal.returns-clause-checked
returns-clause-checked c =
    checked_root c.in_ok-root.root c.in_ok-grouped.grouped c.in_ok-joined.joined c.in_ok-drawn-3.drawn c.in_ok-drawn-2.drawn c.in_ok-groups-2.groups c.in_ok-drawn.drawn.items c.in_ok-groups.groups.items c.args.number c.args.rows c.requires.most
    c.in_ok-drawn.ensures c.in_ok-groups.ensures c.in_ok-drawn-2.ensures c.in_ok-groups-2.ensures c.in_ok-drawn-3.ensures c.in_ok-joined.ensures c.in_ok-grouped.ensures c.in_ok-root.ensures
