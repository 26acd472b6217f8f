use Rattle.std.proofs.Common.{◌≡◌, ℕ, List, drop}
use Rattle.serde_json.specs.View.{view}
use Rattle.serde_json.specs.declared.value.Value.{Value}
use Rattle.vx_json.specs.Place.{path_of}
use Rattle.vx_json.specs.Lists.{each_from}
use Rattle.vx_json.proofs.ListLaws.{joined}
use Rattle.vx_json.proofs.lists.each.Given as goal

abbrev pub invariant-loop-i : goal.invariant-loop-i
invariant-loop-i g l =
    let reads = λ (i : ℕ) (path : List ℕ) (value : Value). g.R.Reads.reads l.reader i path (view value) in
    joined l.items.items (each_from reads (path_of l.way) l.i (drop l.i l.values)) ≡ each_from reads (path_of l.way) 0 l.values
