use Rattle.std.proofs.Common.{arith}
use Rattle.std.proofs.lemmas.Grind.{common_steps}
use Rattle.vx_json.proofs.PrintingLaws.{cells_text-cons, on_ok-cells}
use Rattle.vx_json.proofs.printing.push_cells.Goals as goal

-- a first cell, and the others with commas
pub returns-in_ok-push_cell-in-Some-clause-ok : goal.returns-in_ok-push_cell-in-Some-clause-ok
returns-in_ok-push_cell-in-Some-clause-ok c = rw (c.in-Some.ensures.cases.0, cells_text-cons) (grind (arith, common_steps))

pub returns-in_ok-push_cell-in-Some-clause-utf8 : goal.returns-in_ok-push_cell-in-Some-clause-utf8
returns-in_ok-push_cell-in-Some-clause-utf8 c =
    on_ok-cells c.push_rest.result _ _ _ c.in-Some.ensures.cases.0 c.in_ok-push_cell-in-Some.ensures.utf8 c.push_rest.ensures.utf8
