-- What is asked of a plan that was read: limits, ids, types, widths. The first stage that finds something refuses.
use Rattle.std.specs.Prelude.{◌≡◌, [], ◌∷◌, Result, Ok}
use Rattle.vx_plan.specs.declared.refusal.LimitName.TheVariants.{Nodes, Columns, Rows, Cells, Depth, Text, Growth}
use Rattle.vx_plan.specs.declared.refusal.Refusal.{Refusal}
use Rattle.vx_plan.specs.declared.node.Plan.{Plan}
use Rattle.vx_plan.specs.Outcome.{on_ok}
use Rattle.vx_plan.specs.Tree.{Tree, tree}
use Rattle.vx_plan.specs.Limits.{check_limits}
use Rattle.vx_plan.specs.Ids.{check_ids}
use Rattle.vx_plan.specs.Types.{check_types}
use Rattle.vx_plan.specs.Widths.{check_widths}

-- the sizes that are asked before the lengths of texts
abbrev pub check_sizes : Tree → Result Unit Refusal
check_sizes t = check_limits (Nodes ∷ Columns ∷ Rows ∷ Cells ∷ Depth ∷ []) t

abbrev pub check_texts : Tree → Result Unit Refusal
check_texts t = check_limits (Text ∷ []) t

-- what is asked after the lengths of texts
abbrev pub check_rest : Tree → Result Unit Refusal
check_rest t =
    on_ok (check_limits (Growth ∷ []) t) (λ _.
    on_ok (check_ids t) (λ _.
    on_ok (check_types t) (λ _. check_widths t)))

abbrev pub check_tree : Tree → Result Unit Refusal
check_tree t = on_ok (check_sizes t) (λ _. on_ok (check_texts t) (λ _. check_rest t))

-- the first refusal of a plan, where there is one
abbrev pub check_plan : Plan → Result Unit Refusal
check_plan plan = check_tree (tree plan.root)

-- a plan that nothing refuses
abbrev pub IsChecked : Plan → Type 0
IsChecked plan = check_plan plan ≡ Ok tt
