use Rattle.std.proofs.Common.{◌≡◌, ℕ, ◌*◌, ◌+◌, List, drop}
use Rattle.serde_json.specs.View.{view}
use Rattle.serde_json.specs.declared.value.Value.{Value}
use Rattle.vx_json.specs.Place.{path_of}
use Rattle.vx_json.specs.Lists.{each_from}
use Rattle.vx_json.specs.Expressions.{expr_at}
use Rattle.vx_json.proofs.ListLaws.{joined}
use Rattle.vx_json.proofs.expressions.+expression.Given as goal

abbrev pub invariant-args_of-loop-i : goal.invariant-args_of-loop-i
invariant-args_of-loop-i l =
    let reads = λ (i : ℕ) (path : List ℕ) (value : Value). expr_at l.levels path (view value) in
    joined l.args (each_from reads (path_of l.way) l.i (drop l.i l.values)) ≡ each_from reads (path_of l.way) 1 (drop 1 l.values)

abbrev pub decreases-expr_at : goal.decreases-expr_at
decreases-expr_at l = 3 * l.levels

abbrev pub decreases-args_of : goal.decreases-args_of
decreases-args_of l = 3 * l.levels + 1

abbrev pub decreases-headed : goal.decreases-headed
decreases-headed l = 3 * l.levels + 2
