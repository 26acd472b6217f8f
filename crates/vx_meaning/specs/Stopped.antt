-- What ends an evaluation early, and what the slow evaluator answers.
use Rattle.std.specs.Prelude.{◌≡◌, ℕ, List, ⊤}
use Rattle.vx_value.specs.Row.{Row}
use Rattle.vx_expr.specs.declared.expression.Expr.{Expr}
use Rattle.vx_expr.specs.declared.outcome.Fault.{Fault}
use Rattle.vx_meaning.specs.Faulty.{StopsAtRow}
use Rattle.vx_meaning.specs.declared.outcome.SlowAnswer.{SlowAnswer}
use Rattle.vx_meaning.specs.declared.outcome.SlowAnswer.TheVariants as slow
use Rattle.vx_meaning.specs.declared.outcome.Stop.{Stop}
use Rattle.vx_meaning.specs.declared.outcome.Stop.TheVariants as stop

-- where it is a fault, P holds of it
abbrev pub IfFault : (ℕ → Row → Fault → Type 0) → Stop → Type 0
IfFault P (stop.Fault node row code) = P node row code
IfFault P stop.NoMemory = ⊤

abbrev pub IfAnswerRows : (List Row → Type 0) → SlowAnswer → Type 0
IfAnswerRows P (slow.Rows rows) = P rows
IfAnswerRows P (slow.Fault node row code) = ⊤

abbrev pub IfAnswerFault : (ℕ → Row → Fault → Type 0) → SlowAnswer → Type 0
IfAnswerFault P (slow.Rows rows) = ⊤
IfAnswerFault P (slow.Fault node row code) = P node row code

-- exactly these rows come from the source
abbrev pub Exactly : List Row → List Row → Type 0
Exactly rows input = input ≡ rows

-- a node with this number stops at the first of these rows on which an expression faults
abbrev pub StopsAmong : ℕ → List Expr → List Row → ℕ → Row → Fault → Type 0
StopsAmong id exprs rows node row code = (id ≡ node) × StopsAtRow exprs (Exactly rows) row code
