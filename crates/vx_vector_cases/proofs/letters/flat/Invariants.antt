use Rattle.std.proofs.Common.{◌≡◌, length, All}
use Rattle.vx_vector.specs.Column.{FitsKind}
use Rattle.vx_vector_cases.proofs.letters.flat.Given as goal

abbrev pub invariant-loop-one : goal.invariant-loop-one
invariant-loop-one l = All (FitsKind l.kind) l.values.items × (length l.values.items ≡ l.one-index)
