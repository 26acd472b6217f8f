use Rattle.std.proofs.Common.{sym, ◌∙◌}
use Rattle.vx_gen.proofs.DrawLemmas.{group_rows-none, group_more}
use Rattle.vx_gen.proofs.rows.group_rows.Goals as goal

pub loop-group-init : goal.loop-group-init
loop-group-init c = c.in_ok-rows.ensures.items ∙ sym group_rows-none

pub loop-group-preserved : goal.loop-group-preserved
loop-group-preserved c = group_more c.loop-group.rows.items c.push.new.self.items c.in_ok-group_row.field-0 c.loop-group.group c.in_ok-push.ensures.items c.in_ok-group_row.ensures c.loop-group.invariant
