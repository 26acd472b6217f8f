use Rattle.std.proofs.Common.{◌∙◌, ap, sym, subst, IfOk, arith}
use Rattle.vx_value.specs.declared.value.Value.{Value}
use Rattle.vx_plan.specs.declared.aggregate.AggregateName.{AggregateName}
use Rattle.vx_meaning.specs.Folds.{fold_of, finish, one_cell}
use Rattle.vx_meaning.specs.Sums.{Pushes}
use Rattle.vx_meaning.proofs.SumLemmas.{count-finish}
use Rattle.vx_meaning.proofs.folding.push_fold.Goals as goal

pub returns-in-Count : goal.returns-in-Count
returns-in-Count c =
    let folded : AggregateName → Value = λ name. fold_of c.args.step (record { name = name; column = c.args.aggregate.column }) c.args.rows.now in
    subst (λ o. IfOk c.push_int.result (Pushes c.args.cells.now.items c.push_int.new.cells.items o))
    (ap one_cell c.count.ensures.is ∙ count-finish c.args.step c.args.aggregate.column c.args.rows.now (omega arith) ∙ ap (λ name. finish c.args.step name (folded name)) (sym c.in-Count.is))
    c.push_int.ensures
