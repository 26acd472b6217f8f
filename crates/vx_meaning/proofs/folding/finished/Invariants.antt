use Rattle.std.proofs.Common.{◌≡◌, ◌++◌, drop}
use Rattle.std.specs.Prelude.{option_map}
use Rattle.vx_meaning.specs.Folds.{folds_of, finish_all}
use Rattle.vx_meaning.proofs.folding.finished.Given as goal

abbrev pub invariant-loop-aggregate : goal.invariant-loop-aggregate
invariant-loop-aggregate l =
    option_map (λ more. l.cells.items ++ more) (finish_all l.step (drop l.aggregate-index l.aggregates) (folds_of l.step (drop l.aggregate-index l.aggregates) l.rows))
    ≡ finish_all l.step l.aggregates (folds_of l.step l.aggregates l.rows)
