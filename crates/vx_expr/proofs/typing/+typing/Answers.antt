use Rattle.std.proofs.Common.{sym, ◌∙◌, ap, map}
use Rattle.vx_expr.specs.Typing.{type_of, type_of_call}
use Rattle.vx_expr.proofs.ExprLemmas.{type_of-Column, type_of-Call}
use Rattle.vx_expr.proofs.typing.+typing.Goals as goal

pub type_of-returns-in-Column : goal.type_of-returns-in-Column
type_of-returns-in-Column t c =
    c.kind_at.ensures ∙ sym (ap (λ e. type_of e c.args.kinds.now) c.in-Column.is ∙ type_of-Column c.in-Column.at c.args.kinds.now)

pub type_of-returns-in-Call : goal.type_of-returns-in-Call
type_of-returns-in-Call t c =
    let e = type_of-Call c.in-Call.func c.in-Call.args c.args.kinds.now in
    c.type_of_call.ensures ∙ ap (λ args. type_of_call c.in-Call.func (map (λ a. type_of a c.args.kinds.now) args)) c.as_slice.ensures ∙ sym (ap (λ e. type_of e c.args.kinds.now) c.in-Call.is ∙ e)
