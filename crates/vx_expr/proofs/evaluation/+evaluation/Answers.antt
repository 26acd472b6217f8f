use Rattle.std.proofs.Common.{◌≡◌, sym, ◌∙◌, ap, subst, map, IfOk}
use Rattle.vx_expr.specs.Eval.{eval, apply}
use Rattle.vx_expr.proofs.ExprLemmas.{eval-Call, apply-many}
use Rattle.vx_expr.proofs.evaluation.+evaluation.Goals as goal

pub eval_row-returns-in-Call : goal.eval_row-returns-in-Call
eval_row-returns-in-Call t c =
    let row = c.args.row.now in
    let e = eval-Call c.in-Call.func c.in-Call.args row in
    subst (λ x. IfOk c.eval_call.result (λ got. got ≡ x)) (ap (λ args. apply c.in-Call.func (map (λ a. eval a row) args)) c.as_slice.ensures ∙ sym (ap (λ e. eval e row) c.in-Call.is ∙ e)) c.eval_call.ensures

pub eval_call-returns : goal.eval_call-returns
eval_call-returns t c =
    c.null-in_default.ensures ∙ sym (apply-many c.args.func c.args.row.now c.args.args.now c.in_default.len_at_least)
