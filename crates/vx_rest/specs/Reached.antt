-- The states of a query that moves lead to.
use Rattle.std.specs.Prelude.{ℕ}
use Rattle.vx_plan.specs.Tree.{Tree}
use Rattle.vx_rest.specs.Held.{Holding}
use Rattle.vx_rest.specs.Fits.{Passed, Moved}
use Rattle.vx_rest.specs.Start.{IsAtStart}

-- reached from a start by moves
pub data IsReached (drivers : ℕ) (t : Tree) : Holding → Type 0 where
  started : (q : Holding) → IsAtStart drivers q t → IsReached drivers t q
  moved : (m : Passed) (old new : Holding) → Moved drivers t m old new → IsReached drivers t old
      → IsReached drivers t new
