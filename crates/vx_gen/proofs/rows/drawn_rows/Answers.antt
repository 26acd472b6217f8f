use Rattle.std.proofs.Common.{sym, ap, ◌∙◌}
use Rattle.vx_gen.specs.Draws.{next_state}
use Rattle.vx_gen.proofs.DrawLemmas.{state_after-zero, state_after-row, drawn_rows-none, row_more}
use Rattle.vx_gen.proofs.rows.drawn_rows.Goals as goal

pub loop-i-init : goal.loop-i-init
loop-i-init c = record {
  state = c.from_number-draws.ensures ∙ sym (state_after-zero c.args.number);
  rows = c.in_ok-rows.ensures.items ∙ sym (drawn_rows-none c.args.number);
}

pub loop-i-preserved : goal.loop-i-preserved
loop-i-preserved c = record {
  state = c.drawn_row.ensures.state ∙ (ap (λ s. next_state (next_state s)) c.loop-i.invariant.state ∙ sym (state_after-row c.args.number c.loop-i.i));
  rows = row_more c.loop-i.rows.items c.push.new.self.items c.in_ok-drawn_row.field-0 c.args.number c.loop-i.i c.loop-i.draws c.in_ok-push.ensures.items c.in_ok-drawn_row.ensures.is c.loop-i.invariant.state c.loop-i.invariant.rows;
}
