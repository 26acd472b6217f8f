-- A refusal that is handed on.
use Rattle.std.proofs.Common.{◌≡◌, Result, Ok, Err}
use Rattle.std.specs.Result.{IsErrAnd}
use Rattle.vx_json.specs.Place.{Said, and_then}
use Rattle.vx_json.specs.Outcome.{Gives}
use Rattle.vx_json.specs.declared.error.PlanError.{PlanError}
use Rattle.vx_json.specs.declared.error.PlanError.TheVariants.{Refused, NoMemory}

-- what a first reading refuses is refused, whatever comes after it
pub Gives-refused : {A B : Type 0} (read : Result A Said) (more : A → Result B Said) (e : PlanError) (result : Result B PlanError)
    → IsErrAnd result (λ error. error ≡ e) → Gives {T = A} (Err e) read → Gives result (and_then read more)
Gives-refused read more e (Ok thing) is given = absurd is
Gives-refused read more (Refused refusal) (Err error) is given = rw (is, given)
Gives-refused read more NoMemory (Err error) is given = rw is tt
