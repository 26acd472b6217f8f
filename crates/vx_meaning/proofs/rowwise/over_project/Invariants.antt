use Rattle.std.proofs.Common.{◌≡◌, ◌++◌, All, map}
use Rattle.std.specs.Vec.Iter.{into_iter_items, into_iter_len}
use Rattle.vx_value.specs.Row.{Row}
use Rattle.vx_expr.specs.declared.outcome.Fault.{Fault}
use Rattle.vx_meaning.specs.Rows.{image, IsSound}
use Rattle.vx_meaning.proofs.RowLemmas.{FaultsIn}
use Rattle.vx_meaning.proofs.rowwise.over_project.Given as goal

abbrev pub invariant-loop-row : goal.invariant-loop-row
invariant-loop-row l = record {
  images : l.images.items ++ map (image l.exprs) (into_iter_items l.rest) ≡ map (image l.exprs) (into_iter_items l.initial.rest);
  sound : All (IsSound l.exprs) (into_iter_items l.rest) → All (IsSound l.exprs) (into_iter_items l.initial.rest);
  stop : (row : Row) (code : Fault) → FaultsIn l.exprs (into_iter_items l.rest) row code → FaultsIn l.exprs (into_iter_items l.initial.rest) row code;
}

abbrev pub decreases-loop-row : goal.decreases-loop-row
decreases-loop-row l = into_iter_len l.rest
