use Rattle.std.proofs.Common.{◌≡◌, refl, Err}
use Rattle.vx_expr.specs.declared.outcome.Fault.TheVariants.{Overflow}
use Rattle.vx_meaning.specs.Folds.{folds_of, finish_all}
use Rattle.vx_meaning.specs.Groups.{groups, row_or_key}
use Rattle.vx_meaning.specs.Faulty.{GroupFaults}
use Rattle.vx_meaning.specs.Stopped.{IfFault}
use Rattle.vx_meaning.proofs.StopLemmas.{err-is, IfFault-more}
use Rattle.vx_meaning.proofs.GroupLemmas.{groups-run, runs-end, later-smaller, later-sorted, rows-more, there-more}
use Rattle.vx_meaning.proofs.grouping.each_run.Goals as goal

pub returns-in_err-group-clause-stop : goal.returns-in_err-group-clause-stop
returns-in_err-group-clause-stop c =
    let keys = c.args.of.now.keys.now in
    let step = c.args.of.now.step in
    let aggregates = c.args.of.now.aggregates.now in
    let sorted = c.args.sorted.now in
    let rest = c.loop-first.rest.now in
    let run = c.split_at.result.0.now in
    let later = c.split_at.result.1.now in
    let out = row_or_key c.in_ok-key.key.items (finish_all step aggregates (folds_of step aggregates run)) in
    err-is c.from_residual-in_err-group.result c.in_err-group.field-0.0 (IfFault (λ node row code. (c.args.of.now.id ≡ node) × GroupFaults step keys aggregates (λ input. input ≡ sorted) row code)) c.from_residual-in_err-group.ensures.1
    (IfFault-more (λ node row code. (c.args.of.now.id ≡ node) × (Err row ≡ out) × (code ≡ Overflow)) (λ node row code. (c.args.of.now.id ≡ node) × GroupFaults step keys aggregates (λ input. input ≡ sorted) row code)
    (λ node row code h. (
      h.0,
      record {
        input = sorted;
        from = refl;
        there = there-more c.loop-first.rows.items row out (groups step keys aggregates rest) (groups step keys aggregates later) (groups step keys aggregates sorted) c.loop-first.invariant.rows
            (groups-run step keys aggregates rest run later c.in-Some.first.now c.in_ok-key.key.items c.run_length-count.result c.requires.keyed c.loop-first.invariant.sorted c.in-Some.ensures.value c.run_length-count.ensures.run.same c.run_length-count.ensures.run.ends c.split_at.ensures.front c.split_at.ensures.back c.in_ok-key.ensures)
            h.1;
        fault = h.2;
      },
    ))
    c.in_err-group.field-0.0 c.in_err-group.ensures.stop)

pub loop-first-smaller : goal.loop-first-smaller
loop-first-smaller c = later-smaller c.args.of.now.keys.now c.loop-first.rest.now c.split_at.result.1.now c.in-Some.first.now c.run_length-count.result c.in-Some.ensures.value c.run_length-count.ensures.run.ends c.split_at.ensures.back

pub loop-first-preserved : goal.loop-first-preserved
loop-first-preserved c =
    let keys = c.args.of.now.keys.now in
    let step = c.args.of.now.step in
    let aggregates = c.args.of.now.aggregates.now in
    let rest = c.loop-first.rest.now in
    let run = c.split_at.result.0.now in
    let later = c.split_at.result.1.now in
    record {
      sorted = later-sorted keys rest later c.run_length-count.result c.loop-first.invariant.sorted c.split_at.ensures.back;
      rows = rows-more c.loop-first.rows.items c.push_row.new.rows.items c.in_ok-group.field-0 (row_or_key c.in_ok-key.key.items (finish_all step aggregates (folds_of step aggregates run))) (groups step keys aggregates rest) (groups step keys aggregates later) (groups step keys aggregates c.args.sorted.now)
          c.loop-first.invariant.rows
          (groups-run step keys aggregates rest run later c.in-Some.first.now c.in_ok-key.key.items c.run_length-count.result c.requires.keyed c.loop-first.invariant.sorted c.in-Some.ensures.value c.run_length-count.ensures.run.same c.run_length-count.ensures.run.ends c.split_at.ensures.front c.split_at.ensures.back c.in_ok-key.ensures)
          c.in_ok-group.ensures.row c.in_ok-push_row.ensures;
    }

pub returns-clause-rows : goal.returns-clause-rows
returns-clause-rows c = runs-end c.args.of.now.step c.args.of.now.keys.now c.args.of.now.aggregates.now c.loop-first.rows.items c.loop-first.rest.now (groups c.args.of.now.step c.args.of.now.keys.now c.args.of.now.aggregates.now c.args.sorted.now) c.requires.keyed c.in_default.ensures.value c.loop-first.invariant.rows
