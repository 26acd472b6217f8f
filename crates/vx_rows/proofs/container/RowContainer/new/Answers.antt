use Rattle.std.proofs.Common.{length, ap, ◌∙◌, arith, [], ℕ}
use Rattle.vx_records.specs.Record.{RecordsModel}
use Rattle.vx_rows.proofs.ContainerLemmas.{new_container, new_seen}
use Rattle.vx_rows.proofs.LayoutLemmas.{how_many}
use Rattle.vx_rows.proofs.container.RowContainer.new.Goals as goal

pub invariant_of-result : goal.invariant_of-result
invariant_of-result c = new_container c.args.kinds.now c.args.extras.now c.in_ok-layout.layout c.new-records.result c.new-2.result c.in_ok-empty.empty.items c.in_ok-scratch.scratch.items c.in_ok-layout.ensures (omega (arith, ap length c.in_ok-layout.ensures, how_many c.args.kinds.now c.args.extras.now)) (c.new-records.ensures ∙ ap (λ (n : ℕ). let m : RecordsModel = record { len = n; records = [] } in m) c.bytes.ensures.is) c.in_ok-empty.ensures.len c.in_ok-empty.ensures.is c.in_ok-scratch.ensures.len

pub returns : goal.returns
returns c = new_seen c.args.kinds.now c.args.extras.now c.in_ok-layout.layout c.new-records.result c.new-2.result c.in_ok-layout.ensures (c.new-records.ensures ∙ ap (λ (n : ℕ). let m : RecordsModel = record { len = n; records = [] } in m) c.bytes.ensures.is) c.new-2.ensures
