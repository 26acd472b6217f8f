-- When an object may answer that the outside failed.
use Rattle.std.specs.Prelude.{ℕ, ◌+◌, ◌-◌, ◌^◌, ◌≤◌, min, Result, IfErr}

-- A count of faults has risen. A count at its type's end stands still, and this counts as rising too.
abbrev pub Rose : ℕ → ℕ → Type 0
Rose before now = min (before + 1) (2 ^ 64 - 1) ≤ now

-- The count of faults never falls, and an error that is a fault comes only where it rose in this call.
pub record HasCause {T E : Type 0} (IsFault : E → Type 0) (before now : ℕ) (result : Result T E) : Type 0 where
  pub later : before ≤ now
  pub risen : IfErr result (λ e. IsFault e → Rose before now)
