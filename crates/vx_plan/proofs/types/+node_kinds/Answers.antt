use Rattle.std.proofs.Common.{rules, ◌∙◌, ap, sym, length}
use Rattle.vx_plan.specs.declared.refusal.LimitName.TheVariants.{Columns}
use Rattle.vx_plan.specs.declared.node.Node.{the_lemmas}
use Rattle.vx_plan.specs.Tree.{tree, over, project}
use Rattle.vx_plan.specs.Limits.{keeps_everywhere, columns}
use Rattle.vx_plan.proofs.TreeLemmas.{tree-Join, tree-Project}
use Rattle.vx_plan.proofs.LimitLemmas.{kept_left, kept_right, few_joined}
use Rattle.vx_plan.proofs.TypeLemmas.{projected}
use Rattle.vx_plan.proofs.types.+node_kinds.Goals as goal

pub node_kinds-requires-in-Join : goal.node_kinds-requires-in-Join
node_kinds-requires-in-Join t c =
    let n = c.args.node.now in
    let j = c.in-Join in
    let is = tree-Join n j.kind j.left_keys j.right_keys j.left j.right j.is in
    (search (rules, the_lemmas), ap (λ s. keeps_everywhere Columns (tree s)) c.get-in-Join.ensures ∙ kept_left Columns (tree n) n.id j.kind j.left_keys j.right_keys (tree j.left) (tree j.right) is c.requires)

pub node_kinds-requires-in-Join-2 : goal.node_kinds-requires-in-Join-2
node_kinds-requires-in-Join-2 t c =
    let n = c.args.node.now in
    let j = c.in-Join in
    let is = tree-Join n j.kind j.left_keys j.right_keys j.left j.right j.is in
    (search (rules, the_lemmas), ap (λ s. keeps_everywhere Columns (tree s)) c.get-in-Join-2.ensures ∙ kept_right Columns (tree n) n.id j.kind j.left_keys j.right_keys (tree j.left) (tree j.right) is c.requires)

pub joined_kinds-requires : goal.joined_kinds-requires
joined_kinds-requires t c =
    let n = c.args.node.now in
    let j = c.in-Join in
    let is = tree-Join n j.kind j.left_keys j.right_keys j.left j.right j.is in
    few_joined (tree n) n.id j.kind j.left_keys j.right_keys (tree j.left) (tree j.right) (length c.in_ok-left-in-Join.left) (length c.as_slice-in-Join-3.result.now) is c.requires
    (c.in_ok-left-in-Join.ensures.columns ∙ ap (λ s. columns (tree s)) c.get-in-Join.ensures)
    (ap length c.as_slice-in-Join-3.ensures.is ∙ c.in_ok-right-in-Join.ensures.columns ∙ ap (λ s. columns (tree s)) c.get-in-Join-2.ensures)

pub returns-in_ok-kinds-in-Project-clause-is : goal.returns-in_ok-kinds-in-Project-clause-is
returns-in_ok-kinds-in-Project-clause-is t c =
    let n = c.args.node.now in
    let p = c.in-Project in
    projected (tree n) (tree c.get-in-Project.result.now) n.id p.exprs c.as_slice-in-Project.result.now c.in_ok-kinds-in-Project.kinds c.as_slice-in-Project-2.result.now c.named-in-Project.result c.project_kinds.result
    (tree-Project n p.exprs p.source p.is ∙ ap (λ s. over n.id (project p.exprs) (tree s)) (sym c.get-in-Project.ensures))
    c.in_ok-kinds-in-Project.ensures.is c.as_slice-in-Project.ensures c.as_slice-in-Project-2.ensures.is c.project_kinds.ensures.is c.named-in-Project.ensures
