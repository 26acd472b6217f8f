use Rattle.std.proofs.Common.{All}
use Rattle.vx_vector.specs.Column.{FitsKind}
use Rattle.vx_value.specs.declared.value.Kind.TheVariants as kind
use Rattle.vx_vector_cases.proofs.letters.texts.Given as goal

abbrev pub invariant-loop-count : goal.invariant-loop-count
invariant-loop-count l = All (FitsKind kind.Text) l.values.items
