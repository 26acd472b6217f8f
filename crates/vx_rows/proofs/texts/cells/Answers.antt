use Rattle.std.proofs.Common.{arith}
use Rattle.vx_rows.specs.Body.{seen}
use Rattle.vx_rows.proofs.FieldLemmas.{kept_field, cells_more}
use Rattle.vx_rows.proofs.texts.cells.Goals as goal

pub value-requires : goal.value-requires
value-requires c = kept_field c.args.arena.now c.args.layout.now c.args.body.now c.loop-which.which (seen c.field.result) c.requires.held (omega (arith, c.loop-which-test.true, c.requires.columns)) c.field.ensures

pub loop-which-preserved : goal.loop-which-preserved
loop-which-preserved c = cells_more c.args.arena.now c.args.layout.now c.args.body.now c.loop-which.which (seen c.field.result) c.in_ok-value.field-0 c.loop-which.cells.items c.push.new.self.items (omega (arith, c.loop-which-test.true, c.requires.columns)) c.field.ensures c.in_ok-value.ensures c.loop-which.invariant c.in_ok-push.ensures.items
