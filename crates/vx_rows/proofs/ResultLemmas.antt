-- A fact that holds whatever the error is.
use Rattle.std.proofs.Common.{Result, Ok, Err, IfOk, OnErr}

pub on_err : {T E : Type 0} → (r : Result T E) {P : Type 0} → P → OnErr r P
on_err (Ok value) p = tt
on_err (Err error) p = p

-- what follows for each value
pub ok_weaker : {T E : Type 0} → (r : Result T E) (P Q : T → Type 0) → ((v : T) → P v → Q v) → IfOk r P → IfOk r Q
ok_weaker (Ok value) P Q weaker p = weaker value p
ok_weaker (Err error) P Q weaker p = tt
