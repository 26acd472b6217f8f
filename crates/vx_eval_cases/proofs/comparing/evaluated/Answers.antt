use Rattle.std.proofs.Common.{rules, ◌∙◌, List, subst, ap, IsOk}
use Rattle.vx_value.specs.declared.value.Kind.{Kind}
use Rattle.vx_expr.specs.Typing.{type_of}
use Rattle.vx_vector.specs.Batch.{BatchModel, kinds_of}
use Rattle.vx_eval_cases.proofs.comparing.evaluated.Goals as goal

pub eval-requires-clause-types : goal.eval-requires-clause-types
eval-requires-clause-types c =
    let over : IsOk (type_of c.args.e.now c.as_slice-2.result.now) = search rules in
    subst (λ (kinds : List Kind). IsOk (type_of c.args.e.now kinds)) (c.as_slice-2.ensures.value ∙ c.in_ok-kinds.ensures ∙ ap kinds_of (c.as_slice.ensures.value ∙ ap (λ (b : BatchModel). b.columns) c.batch.view_is)) over
