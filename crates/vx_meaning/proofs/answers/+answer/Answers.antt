use Rattle.vx_plan.specs.Tree.{tree}
use Rattle.vx_plan.proofs.TreeLemmas.{tree-Filter}
use Rattle.vx_meaning.proofs.FilterLemmas.{filter-tree, filter-rows, filter-stop}
use Rattle.vx_meaning.proofs.answers.+answer.Goals as goal

pub returns-in-Filter-clause-rows : goal.returns-in-Filter-clause-rows
returns-in-Filter-clause-rows t c =
    let n = c.args.node in
    let p = c.in-Filter in
    filter-rows (tree n) n.id _ (tree c.into_inner.result) c.in_ok-answer-in-Filter.field-0.items c.over_filter.result
    (filter-tree (tree n) n.id p.predicate _ p.source _ c.into_inner.result (tree-Filter n p.predicate p.source p.is) p.predicate-is p.source-is c.into_inner.ensures)
    c.in_ok-answer-in-Filter.ensures.rows c.over_filter.ensures.rows

pub returns-in-Filter-clause-stop : goal.returns-in-Filter-clause-stop
returns-in-Filter-clause-stop t c =
    let n = c.args.node in
    let p = c.in-Filter in
    filter-stop (tree n) n.id _ (tree c.into_inner.result) c.in_ok-answer-in-Filter.field-0.items c.over_filter.result
    (filter-tree (tree n) n.id p.predicate _ p.source _ c.into_inner.result (tree-Filter n p.predicate p.source p.is) p.predicate-is p.source-is c.into_inner.ensures)
    c.in_ok-answer-in-Filter.ensures.rows c.over_filter.ensures.stop
