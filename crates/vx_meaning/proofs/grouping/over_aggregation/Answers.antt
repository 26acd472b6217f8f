use Rattle.std.proofs.Common.{◌≡◌, ◌∙◌, ap, sym, arith, refl, Ok, Err, map, length}
use Rattle.std.proofs.lemmas.Bool.Decides.{nat_tests}
use Rattle.vx_expr.specs.declared.outcome.Fault.TheVariants.{Overflow}
use Rattle.vx_plan.specs.declared.widths.Width.TheVariants.{One}
use Rattle.vx_meaning.specs.Folds.{folds_of, finish_all}
use Rattle.vx_meaning.specs.Groups.{groups, row_or_key}
use Rattle.vx_meaning.specs.Lines.{Grouped}
use Rattle.vx_meaning.specs.Faulty.{GroupFaults}
use Rattle.vx_meaning.specs.Stopped.{IfFault}
use Rattle.vx_meaning.proofs.StopLemmas.{err-is, IfFault-more, IfOk-more, IfErr-more}
use Rattle.vx_meaning.proofs.GroupLemmas.{grouped-one, whole-there, whole-rows, GroupFaults-shuffled}
use Rattle.vx_meaning.proofs.grouping.over_aggregation.Goals as goal

pub returns-in_err-group-clause-stop : goal.returns-in_err-group-clause-stop
returns-in_err-group-clause-stop c =
    let keys = c.args.of.now.keys.now in
    let step = c.args.of.now.step in
    let aggregates = c.args.of.now.aggregates.now in
    let all = c.args.below.items in
    let slice = c.as_slice.result.now in
    let key = c.new.result.items in
    let none : length keys ≡ 0 = grind (arith, nat_tests, c.if-is_empty.ensures) in
    err-is c.from_residual.result c.in_err-group.field-0.0 (IfFault (λ node row code. (c.args.of.now.id ≡ node) × GroupFaults step keys aggregates (λ input. input ≡ all) row code)) c.from_residual.ensures.1
    (IfFault-more (λ node row code. (c.args.of.now.id ≡ node) × (Err row ≡ row_or_key key (finish_all step aggregates (folds_of step aggregates slice))) × (code ≡ Overflow)) (λ node row code. (c.args.of.now.id ≡ node) × GroupFaults step keys aggregates (λ input. input ≡ all) row code)
    (λ node row code h. (
      h.0,
      record {
        input = all;
        from = refl;
        there = whole-there step keys aggregates all slice key row none c.new.ensures.items c.as_slice.ensures.value h.1;
        fault = h.2;
      },
    ))
    c.in_err-group.field-0.0 c.in_err-group.ensures.stop)

pub returns-then-is_empty-clause-rows : goal.returns-then-is_empty-clause-rows
returns-then-is_empty-clause-rows c =
    let none : length c.args.of.now.keys.now ≡ 0 = grind (arith, nat_tests, c.if-is_empty.ensures) in
    whole-rows c.args.of.now.step c.args.of.now.keys.now c.args.of.now.aggregates.now c.args.below.items c.as_slice.result.now c.new-rows.result.items c.push_row.new.rows.items c.new.result.items c.in_ok-group.field-0
    none c.new.ensures.items c.as_slice.ensures.value c.in_ok-group.ensures.row c.new-rows.ensures.items c.in_ok-push_row.ensures

pub returns-clause-rows : goal.returns-clause-rows
returns-clause-rows c =
    let keys = c.args.of.now.keys.now in
    let step = c.args.of.now.step in
    let aggregates = c.args.of.now.aggregates.now in
    IfOk-more c.each_run.result (λ rows. map Ok rows.items ≡ groups step keys aggregates c.as_slice-2.result.now) (λ rows. Grouped step keys aggregates One (λ input. input ≡ c.args.below.items) (map Ok rows.items))
    (λ rows is. grouped-one step keys aggregates c.args.below.items c.in_ok-sorted.sorted.items (map Ok rows.items) c.in_ok-sorted.ensures.same (ap (groups step keys aggregates) (sym c.as_slice-2.ensures.value) ∙ sym is))
    c.each_run.ensures.rows

pub returns-clause-stop : goal.returns-clause-stop
returns-clause-stop c =
    let keys = c.args.of.now.keys.now in
    let step = c.args.of.now.step in
    let aggregates = c.args.of.now.aggregates.now in
    IfErr-more c.each_run.result (IfFault (λ node row code. (c.args.of.now.id ≡ node) × GroupFaults step keys aggregates (λ input. input ≡ c.as_slice-2.result.now) row code)) (IfFault (λ node row code. (c.args.of.now.id ≡ node) × GroupFaults step keys aggregates (λ input. input ≡ c.args.below.items) row code))
    (λ stop. IfFault-more (λ node row code. (c.args.of.now.id ≡ node) × GroupFaults step keys aggregates (λ input. input ≡ c.as_slice-2.result.now) row code) (λ node row code. (c.args.of.now.id ≡ node) × GroupFaults step keys aggregates (λ input. input ≡ c.args.below.items) row code)
    (λ node row code h. (h.0, GroupFaults-shuffled step keys aggregates c.args.below.items c.in_ok-sorted.sorted.items c.as_slice-2.result.now row code c.in_ok-sorted.ensures.same c.as_slice-2.ensures.value h.1)) stop)
    c.each_run.ensures.stop
