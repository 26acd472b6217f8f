use Rattle.std.proofs.Common.{rules}
use Rattle.std.specs.Cow.{cow_value}
use Rattle.vx_expr.specs.declared.expression.Expr.{the_lemmas}
use Rattle.vx_eval.proofs.EvalLemmas.{ready_call, evaluated, evaluated_lent, two_items, three_items, evaluated_two, evaluated_three}
use Rattle.vx_eval.proofs.evaluation.+evaluation.Goals as goal

pub lanes_of-lanes_of_call-requires : goal.lanes_of-lanes_of_call-requires
lanes_of-lanes_of_call-requires t c =
    (search (rules, the_lemmas), (ready_call c.args.batch.now.columns c.in-Call.func c.in-Call.args c.as_slice.result.now c.args.e.now c.in-Call.is c.as_slice.ensures c.requires.ready, (c.requires.places, c.requires.wanted)))

pub lanes_of-returns-in_ok-lanes_of_call-in-Call : goal.lanes_of-returns-in_ok-lanes_of_call-in-Call
lanes_of-returns-in_ok-lanes_of_call-in-Call t c =
    evaluated c.args.batch.now.columns c.args.rows.now c.args.wanted.now c.in-Call.func c.in-Call.args c.as_slice.result.now c.args.e.now c.in_ok-lanes_of_call-in-Call.field-0 c.in-Call.is c.as_slice.ensures c.in_ok-lanes_of_call-in-Call.ensures

pub lanes_of_call-returns-in_ok-b-in-len2 : goal.lanes_of_call-returns-in_ok-b-in-len2
lanes_of_call-returns-in_ok-b-in-len2 t c =
    evaluated_two c.args.batch.now.columns c.args.rows.now c.args.wanted.now c.these_or.result.now c.args.func c.args.args.now c.a-item-then-args-lt3.result c.b-item.result c.as_ref-left.result.now c.as_ref.result.now c.apply_two.result
    (two_items c.args.args.now c.a-item-then-args-lt3.result c.b-item.result c.in-len2.len_at_least c.in-len2.len_below c.a-item-then-args-lt3.is c.b-item.is)
    c.requires.ready
    (evaluated_lent c.args.batch.now.columns c.args.rows.now c.args.wanted.now c.a-item-then-args-lt3.result (cow_value c.in_ok-a-in-len2.a) c.as_ref-left.result.now c.as_ref-left.ensures c.in_ok-a-in-len2.ensures)
    (evaluated_lent c.args.batch.now.columns c.args.rows.now c.these_or.result.now c.b-item.result (cow_value c.in_ok-b-in-len2.b) c.as_ref.result.now c.as_ref.ensures c.in_ok-b-in-len2.ensures)
    (λ k h w s. c.in_ok-second-in-len2.ensures.each k h w (rw c.these_or.ensures at s))
    c.apply_two.ensures.kind c.apply_two.ensures.each

pub lanes_of_call-returns-in_ok-b-in-len3 : goal.lanes_of_call-returns-in_ok-b-in-len3
lanes_of_call-returns-in_ok-b-in-len3 t c =
    evaluated_three c.args.batch.now.columns c.args.rows.now c.args.wanted.now c.as_slice.result.now c.as_slice-in-len3.result.now c.args.func c.args.args.now c.c-item.result c.a-item-then-args-lt4.result c.b-item-then-args-lt4.result c.as_ref-condition.result.now c.as_ref-in-len3.result.now c.as_ref-in-len3-2.result.now c.apply_three.result
    (three_items c.args.args.now c.c-item.result c.a-item-then-args-lt4.result c.b-item-then-args-lt4.result c.in-len3.len_at_least c.in-len3.len_below c.c-item.is c.a-item-then-args-lt4.is c.b-item-then-args-lt4.is)
    c.requires.ready
    (evaluated_lent c.args.batch.now.columns c.args.rows.now c.args.wanted.now c.c-item.result (cow_value c.in_ok-c-in-len3.c) c.as_ref-condition.result.now c.as_ref-condition.ensures c.in_ok-c-in-len3.ensures)
    (evaluated_lent c.args.batch.now.columns c.args.rows.now c.as_slice.result.now c.a-item-then-args-lt4.result (cow_value c.in_ok-a-in-len3.a) c.as_ref-in-len3.result.now c.as_ref-in-len3.ensures c.in_ok-a-in-len3.ensures)
    (evaluated_lent c.args.batch.now.columns c.args.rows.now c.as_slice-in-len3.result.now c.b-item-then-args-lt4.result (cow_value c.in_ok-b-in-len3.b) c.as_ref-in-len3-2.result.now c.as_ref-in-len3-2.ensures c.in_ok-b-in-len3.ensures)
    (λ k h w s. c.in_ok-first-in-len3.ensures.each k h w (rw c.as_slice.ensures.value at s))
    (λ k h w s. c.in_ok-last-in-len3.ensures.each k h w (rw c.as_slice-in-len3.ensures.value at s))
    c.apply_three.ensures.kind c.apply_three.ensures.each
