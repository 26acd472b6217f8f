use Rattle.std.proofs.Common.{◌∙◌, ap, is_some}
use Rattle.vx_plan.specs.declared.refusal.LimitName.TheVariants.{Nodes, Columns, Rows, Cells, Growth}
use Rattle.vx_plan.specs.Tree.{tree}
use Rattle.vx_plan.proofs.LimitLemmas.{left_kept, kept_as, some_columns, some_growth}
use Rattle.vx_plan.proofs.checking.keeps.Goals as goal

pub returns-in-Nodes : goal.returns-in-Nodes
returns-in-Nodes c =
    let t = tree c.args.node.now in
    kept_as c.args.name Nodes t c.is_some.result c.in-Nodes.is (left_kept c.args.name Nodes 64 t c.is_some.result c.left_after.result c.in-Nodes.is c.is_some.ensures c.left_after.ensures)

pub returns-in-Rows : goal.returns-in-Rows
returns-in-Rows c =
    let t = tree c.args.node.now in
    kept_as c.args.name Rows t c.is_some-in-Rows.result c.in-Rows.is (left_kept c.args.name Rows 100000 t c.is_some-in-Rows.result c.left_after-in-Rows.result c.in-Rows.is c.is_some-in-Rows.ensures c.left_after-in-Rows.ensures)

pub returns-in-Cells : goal.returns-in-Cells
returns-in-Cells c =
    let t = tree c.args.node.now in
    kept_as c.args.name Cells t c.is_some-in-Cells.result c.in-Cells.is (left_kept c.args.name Cells 1000000 t c.is_some-in-Cells.result c.left_after-in-Cells.result c.in-Cells.is c.is_some-in-Cells.ensures c.left_after-in-Cells.ensures)

pub returns-in-Columns : goal.returns-in-Columns
returns-in-Columns c =
    let t = tree c.args.node.now in
    kept_as c.args.name Columns t c.is_some-in-Columns.result c.in-Columns.is (c.is_some-in-Columns.ensures ∙ ap is_some c.columns_within.ensures.is ∙ some_columns t)

pub returns-in-Growth : goal.returns-in-Growth
returns-in-Growth c =
    let t = tree c.args.node.now in
    kept_as c.args.name Growth t c.is_some-in-Growth.result c.in-Growth.is (c.is_some-in-Growth.ensures ∙ ap is_some c.growth_within.ensures.is ∙ some_growth t)
