use Rattle.std.proofs.Common.{arith}
use Rattle.vx_meaning.specs.Folds.{finish_all, folds_of}
use Rattle.vx_meaning.proofs.SumLemmas.{finished-more}
use Rattle.vx_meaning.proofs.folding.finished.Goals as goal

pub loop-aggregate-preserved : goal.loop-aggregate-preserved
loop-aggregate-preserved c =
    finished-more c.args.step c.args.aggregates.now c.args.rows.now c.loop-aggregate.aggregate-index _ c.loop-aggregate.cells.items c.push_fold.new.cells.items
    (finish_all c.args.step c.args.aggregates.now (folds_of c.args.step c.args.aggregates.now c.args.rows.now)) c.in_ok-push_fold.field-0 (omega arith) c.if-not-branch.false c.in_ok-push_fold.ensures c.loop-aggregate.invariant
