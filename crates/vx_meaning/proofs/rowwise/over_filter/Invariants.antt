use Rattle.std.proofs.Common.{◌≡◌, ◌++◌, ◌∷◌, [], All}
use Rattle.std.specs.Prelude.{filter}
use Rattle.std.specs.Vec.Iter.{into_iter_items, into_iter_len}
use Rattle.vx_value.specs.Row.{Row}
use Rattle.vx_expr.specs.declared.outcome.Fault.{Fault}
use Rattle.vx_meaning.specs.Rows.{holds, IsSound}
use Rattle.vx_meaning.proofs.RowLemmas.{FaultsIn}
use Rattle.vx_meaning.proofs.rowwise.over_filter.Given as goal

abbrev pub invariant-loop-row : goal.invariant-loop-row
invariant-loop-row l = record {
  kept : l.kept.items ++ filter (holds l.predicate) (into_iter_items l.rest) ≡ filter (holds l.predicate) (into_iter_items l.initial.rest);
  sound : All (IsSound (l.predicate ∷ [])) (into_iter_items l.rest) → All (IsSound (l.predicate ∷ [])) (into_iter_items l.initial.rest);
  stop : (row : Row) (code : Fault) → FaultsIn (l.predicate ∷ []) (into_iter_items l.rest) row code → FaultsIn (l.predicate ∷ []) (into_iter_items l.initial.rest) row code;
}

abbrev pub decreases-loop-row : goal.decreases-loop-row
decreases-loop-row l = into_iter_len l.rest
