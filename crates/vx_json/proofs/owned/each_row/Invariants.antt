use Rattle.std.proofs.Common.{◌≡◌, ◌+◌, ◌||◌, ℕ, List}
use Rattle.std.specs.Vec.Iter.{into_iter_items, into_iter_len}
use Rattle.serde_json.specs.View.{view}
use Rattle.serde_json.specs.declared.value.Value.{Value}
use Rattle.vx_json.specs.Cells.{row_at}
use Rattle.vx_json.specs.Lists.{each_from}
use Rattle.vx_json.specs.Place.{path_of}
use Rattle.vx_json.proofs.ListLaws.{joined}
use Rattle.vx_json.proofs.LongLaws.{long_from}
use Rattle.vx_json.proofs.owned.each_row.Given as goal

abbrev pub invariant-loop-value : goal.invariant-loop-value
invariant-loop-value l =
    let reads = λ (i : ℕ) (path : List ℕ) (value : Value). row_at l.kinds path (view value) in
    record {
      read : joined l.rows.items (each_from reads (path_of l.way) l.i (into_iter_items l.rest)) ≡ each_from reads (path_of l.way) 0 (into_iter_items l.initial.rest);
      count : l.i + into_iter_len l.rest ≡ l.count;
      noted : (l.long || long_from (into_iter_items l.rest)) ≡ (l.initial.long || long_from (into_iter_items l.initial.rest));
    }

abbrev pub decreases-loop-value : goal.decreases-loop-value
decreases-loop-value l = into_iter_len l.rest
