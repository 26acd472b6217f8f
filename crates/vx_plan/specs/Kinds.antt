-- The kinds of the columns that a node gives, for the layers above: none where it doesn't type.
use Rattle.std.specs.Prelude.{List, [], Result, Ok, Err}
use Rattle.vx_value.specs.declared.value.Kind.{Kind}
use Rattle.vx_plan.specs.declared.refusal.Refusal.{Refusal}
use Rattle.vx_plan.specs.Tree.{Tree}
use Rattle.vx_plan.specs.Types.{typed}

abbrev pub kinds_or_none : Result (List Kind) Refusal → List Kind
kinds_or_none (Ok kinds) = kinds
kinds_or_none (Err _) = []

abbrev pub kinds_of : Tree → List Kind
kinds_of t = kinds_or_none (typed t)
