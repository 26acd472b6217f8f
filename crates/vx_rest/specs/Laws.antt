-- The laws that a contract names.
use Rattle.std.specs.Prelude.{◌≡◌, ℕ, ◌≤◌, List, Ok}
use Rattle.vx_value.specs.Row.{Row}
use Rattle.vx_expr.specs.declared.outcome.Fault.{Fault}
use Rattle.vx_plan.specs.Tree.{Tree}
use Rattle.vx_plan.specs.Widths.{check_widths}
use Rattle.vx_meaning.specs.Answer.{Answers}
use Rattle.vx_meaning.specs.Faulty.{Faulty}
use Rattle.vx_rest.specs.Held.{Holding}
use Rattle.vx_rest.specs.Rest.{Stands}
use Rattle.vx_rest.specs.RestFaulty.{RestFaulty}
use Rattle.vx_rest.specs.Reached.{IsReached}

-- a query that moves have led to stands for answers of its plan alone
abbrev pub MovesKeepAnswers : Type 0
MovesKeepAnswers = (drivers : ℕ) → 1 ≤ drivers → (t : Tree) → check_widths t ≡ Ok tt → (q : Holding)
    → IsReached drivers t q → (rows : List Row) → Stands drivers q t rows → Answers t rows

-- and its faults are its plan's
abbrev pub MovesKeepFaults : Type 0
MovesKeepFaults = (drivers : ℕ) → 1 ≤ drivers → (t : Tree) → check_widths t ≡ Ok tt → (q : Holding)
    → IsReached drivers t q → (at : ℕ) (row : Row) (code : Fault) → RestFaulty drivers q t at row code
    → Faulty t at row code
