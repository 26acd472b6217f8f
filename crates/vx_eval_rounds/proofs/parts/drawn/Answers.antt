use Rattle.vx_eval_rounds.proofs.ColumnLemmas.{kinds_of_five, first_places}
use Rattle.vx_eval_rounds.proofs.parts.drawn.Goals as goal

pub invariant_of-result-2 : goal.invariant_of-result-2
invariant_of-result-2 c = record {
  columns = kinds_of_five c.in_ok-columns.columns.items _ _ _ _ _ c.in_ok-columns.ensures.items c.in_ok-ints.ensures.kind c.in_ok-ints-2.ensures.kind c.in_ok-ints-3.ensures.kind c.in_ok-texts.ensures.kind c.in_ok-texts-2.ensures.kind;
  places = first_places c.args.rows c.in_ok-first.field-0 c.in_ok-first.ensures;
}
