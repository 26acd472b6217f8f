use Rattle.std.proofs.Common.{sym, ap, ◌∙◌, subst}
use Rattle.vx_records.specs.Record.{RecordsModel}
use Rattle.vx_rows.specs.Container.{stored_of}
use Rattle.vx_rows.specs.Texts.{Holds}
use Rattle.vx_rows.proofs.Holding.{holds_none}
use Rattle.vx_rows.proofs.container.RowContainer.clear.Goals as goal

pub invariant_of-self : goal.invariant_of-self
invariant_of-self c = record {
  shape = c.self.invariant.shape;
  few = c.self.invariant.few;
  len = ap (λ (m : RecordsModel). m.len) c.clear.ensures ∙ c.self.invariant.len;
  whole = c.self.invariant.whole;
  nothing = c.self.invariant.nothing;
  room = c.self.invariant.room;
  holds = subst (λ (m : RecordsModel). Holds c.clear-2.new.self (stored_of c.self.inside.layout m.records)) (sym c.clear.ensures) (holds_none c.clear-2.new.self);
}
