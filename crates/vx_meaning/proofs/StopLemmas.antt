-- What ends an evaluation early, handed on.
use Rattle.std.proofs.Common.{◌≡◌, ℕ, sym, subst, Result, Ok, Err, IfErr, IsErrAnd, IfOk}
use Rattle.vx_value.specs.Row.{Row}
use Rattle.vx_expr.specs.declared.outcome.Fault.{Fault}
use Rattle.vx_meaning.specs.declared.outcome.Stop.{Stop}
use Rattle.vx_meaning.specs.declared.outcome.Stop.TheVariants as stop
use Rattle.vx_meaning.specs.Stopped.{IfFault}

-- what holds of an error holds of the same error handed on
pub err-is : {A : Type 0} (result : Result A Stop) (s : Stop) (P : Stop → Type 0) → IsErrAnd result (λ e. e ≡ s) → P s → IfErr result P
err-is (Ok a) s P h p = absurd h
err-is (Err e) s P h p = subst P (sym h) p

pub IfFault-more : (P Q : ℕ → Row → Fault → Type 0) → ((node : ℕ) (row : Row) (code : Fault) → P node row code → Q node row code) → (s : Stop) → IfFault P s → IfFault Q s
IfFault-more P Q more (stop.Fault node row code) h = more node row code h
IfFault-more P Q more stop.NoMemory h = h

pub IfOk-more : {A E : Type 0} (result : Result A E) (P Q : A → Type 0) → ((a : A) → P a → Q a) → IfOk result P → IfOk result Q
IfOk-more (Ok a) P Q more h = more a h
IfOk-more (Err e) P Q more h = h

pub IfErr-more : {A E : Type 0} (result : Result A E) (P Q : E → Type 0) → ((e : E) → P e → Q e) → IfErr result P → IfErr result Q
IfErr-more (Ok a) P Q more h = h
IfErr-more (Err e) P Q more h = more e h
