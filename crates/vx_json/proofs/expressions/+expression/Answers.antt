use Rattle.std.proofs.Common.{◌<◌, arith}
use Rattle.serde_json.specs.View.{view}
use Rattle.vx_json.specs.Place.{path_of}
use Rattle.vx_json.proofs.ExpressionLaws.{expr_at-more, each-argument}
use Rattle.vx_json.proofs.OutcomeLaws.{Gives-refused}
use Rattle.vx_json.proofs.expressions.+expression.Goals as goal

pub expr_at-returns-in_err-head : goal.expr_at-returns-in_err-head
expr_at-returns-in_err-head t c =
    let more : 0 < c.args.levels = omega arith in
    rw (expr_at-more c.args.levels (path_of c.args.way.now) (view c.args.value.now) more, c.in_ok-values.ensures.items)
    (Gives-refused _ _ c.in_err-head.field-0.0 c.from_residual-in_err-head.result c.from_residual-in_err-head.ensures.1 c.in_err-head.ensures)

pub expr_at-returns : goal.expr_at-returns
expr_at-returns t c =
    let more : 0 < c.args.levels = omega arith in
    rw (expr_at-more c.args.levels (path_of c.args.way.now) (view c.args.value.now) more, c.in_ok-values.ensures.items, c.in_ok-head.ensures) c.headed.ensures

pub headed-returns-in_err-args-in-Call : goal.headed-returns-in_err-args-in-Call
headed-returns-in_err-args-in-Call t c =
    rw (c.in-Call.is, each-argument c.args.levels (path_of c.args.way.now) c.args.values.now)
    (Gives-refused _ _ c.in_err-args-in-Call.field-0.0 c.from_residual.result c.from_residual.ensures.1 c.in_err-args-in-Call.ensures)

pub headed-returns-in_ok-args-in-Call : goal.headed-returns-in_ok-args-in-Call
headed-returns-in_ok-args-in-Call t c =
    rw (c.in-Call.is, each-argument c.args.levels (path_of c.args.way.now) c.args.values.now, c.in_ok-args-in-Call.ensures)
