use Rattle.std.proofs.Common.{sym, ◌∙◌}
use Rattle.vx_rows.proofs.BodyLemmas.{stored_raw, stored_null, stored_slot}
use Rattle.vx_rows.proofs.body.field.Goals as goal

pub returns-then-is_null : goal.returns-then-is_null
returns-then-is_null c = stored_null c.args.layout.now c.args.body.now c.args.which c.in-Slot.kind (sym c.extra.ensures ∙ c.in-Slot.is) (sym c.is_null.ensures ∙ c.if-is_null.true)

pub returns-in-Bytes : goal.returns-in-Bytes
returns-in-Bytes c = stored_raw c.args.layout.now c.args.body.now c.args.which c.in-Bytes.field-0 c.bytes_at-bytes.result.now (sym c.extra.ensures ∙ c.in-Bytes.is) c.bytes_at-bytes.ensures

pub returns-else-is_null : goal.returns-else-is_null
returns-else-is_null c = c.slot_of.ensures ∙ stored_slot c.args.layout.now c.args.body.now c.args.which c.in-Slot.kind c.bytes_at-bytes.result.now (sym c.extra.ensures ∙ c.in-Slot.is) (sym c.is_null.ensures ∙ c.if-is_null.false) c.bytes_at-bytes.ensures
