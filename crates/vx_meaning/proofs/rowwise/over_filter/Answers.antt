use Rattle.std.proofs.Common.{subst, All, arith, refl, ◌∷◌, []}
use Rattle.std.specs.Vec.Iter.{into_iter_items}
use Rattle.vx_meaning.specs.Rows.{holds, IsSound}
use Rattle.vx_meaning.proofs.RowLemmas.{sound-more, stop-more, stop-here, filter-keep, filter-leave, filter-end, verdict-keep, verdict-leave, verdict-fault}
use Rattle.vx_meaning.proofs.rowwise.over_filter.Goals as goal

pub returns-in-Fault-clause-stop : goal.returns-in-Fault-clause-stop
returns-in-Fault-clause-stop c = (
  refl,
  stop-here (c.args.predicate.now ∷ []) c.args.below.items (into_iter_items c.into_iter-rest.result) (into_iter_items c.loop-row.rest) (into_iter_items c.next.new.self) c.in-Some.row c.in-Fault.code
      c.into_iter-rest.ensures.rest c.loop-row.invariant.stop c.in-Some.ensures.items (verdict-fault _ _ _ c.in-Fault.code c.in_ok-code.ensures c.in-Fault.is),
)

pub loop-row-preserved-in-Continue-branch-3 : goal.loop-row-preserved-in-Continue-branch-3
loop-row-preserved-in-Continue-branch-3 c =
    let predicate = c.args.predicate.now in
    let start = into_iter_items c.into_iter-rest.result in
    let rest = into_iter_items c.loop-row.rest in
    let later = into_iter_items c.next.new.self in
    let said = verdict-keep predicate c.in-Some.row c.in_ok-code.field-0 c.in_ok-code.ensures c.in-Keep.is in
    record {
      kept = filter-keep (holds predicate) start rest later c.in-Some.row c.loop-row.kept.items c.push_row.new.rows.items c.loop-row.invariant.kept c.in-Some.ensures.items said.1 c.in_ok-push_row-in-Keep.ensures;
      sound = sound-more (predicate ∷ []) start rest later c.in-Some.row c.loop-row.invariant.sound c.in-Some.ensures.items said.0;
      stop = stop-more (predicate ∷ []) start rest later c.in-Some.row c.loop-row.invariant.stop c.in-Some.ensures.items said.0;
    }

pub loop-row-preserved : goal.loop-row-preserved
loop-row-preserved c =
    let predicate = c.args.predicate.now in
    let start = into_iter_items c.into_iter-rest.result in
    let rest = into_iter_items c.loop-row.rest in
    let later = into_iter_items c.next.new.self in
    let said = verdict-leave predicate c.in-Some.row c.in_ok-code.field-0 c.in_ok-code.ensures c.in-Leave.is in
    record {
      kept = filter-leave (holds predicate) start rest later c.in-Some.row c.loop-row.kept.items c.loop-row.invariant.kept c.in-Some.ensures.items said.1;
      sound = sound-more (predicate ∷ []) start rest later c.in-Some.row c.loop-row.invariant.sound c.in-Some.ensures.items said.0;
      stop = stop-more (predicate ∷ []) start rest later c.in-Some.row c.loop-row.invariant.stop c.in-Some.ensures.items said.0;
    }

pub returns-clause-rows : goal.returns-clause-rows
returns-clause-rows c = let h = c.in_default.ensures in let k = c.in_default.ensures.cases in let m = c.in_default.ensures.len in record {
  input = c.args.below.items;
  from = refl;
  sound = subst (All (IsSound (c.args.predicate.now ∷ []))) c.into_iter-rest.ensures.rest (c.loop-row.invariant.sound (λ i d within. absurd (omega arith)));
  is = filter-end (holds c.args.predicate.now) c.args.below.items (into_iter_items c.into_iter-rest.result) (into_iter_items c.loop-row.rest) c.loop-row.kept.items c.into_iter-rest.ensures.rest (omega arith) c.loop-row.invariant.kept;
}
