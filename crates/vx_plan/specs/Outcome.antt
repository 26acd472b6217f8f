-- Going on with what stands at Ok or Some.
use Rattle.std.specs.Prelude.{Option, Some, None, Result, Ok, Err}

abbrev pub on_ok : {A B E : Type 0} → Result A E → (A → Result B E) → Result B E
on_ok (Ok a) f = f a
on_ok (Err e) f = Err e

abbrev pub on_some : {A B : Type 0} → Option A → (A → Option B) → Option B
on_some (Some a) f = f a
on_some None f = None
