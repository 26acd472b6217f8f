-- What a reader's answer says of the definition that it reads by. Want of memory says nothing.
use Rattle.std.specs.Prelude.{◌≡◌, ⊤, Result, Ok, Err, string_bytes, List, map, Vec}
use Rattle.std.specs.declared.alloc.Global.{Global}
use Rattle.std.specs.Borrow.{Bor}
use Rattle.serde_json.specs.Data.{Data}
use Rattle.serde_json.specs.View.{view}
use Rattle.serde_json.specs.declared.value.Value.{Value}
use Rattle.serde_json.specs.Errors.{IsMemory}
use Rattle.serde_json.specs.declared.error.Error.{Error}
use Rattle.vx_plan.specs.declared.refusal.Refusal.{Refusal}
use Rattle.vx_plan.specs.declared.refusal.Refusal.TheVariants.{P1, P2, P3, P4, P5, P6, P7}
use Rattle.vx_json.specs.declared.error.PlanError.{PlanError}
use Rattle.vx_json.specs.declared.error.PlanError.TheVariants.{Refused, NoMemory}
use Rattle.vx_json.specs.Place.{Said, p1, p2, p3, p4, p5, p6, p7}

-- the refusal, its path as bytes
abbrev pub said_of : Refusal → Said
said_of P1 = p1
said_of (P2 path) = p2 (string_bytes path)
said_of (P3 path) = p3 (string_bytes path)
said_of (P4 id error) = p4 id error
said_of (P5 id) = p5 id
said_of (P6 name) = p6 name
said_of (P7 id) = p7 id

-- it is what is read, or the refusal of it
abbrev pub Gives : {T : Type 0} → Result T PlanError → Result T Said → Type 0
Gives (Ok thing) read = read ≡ Ok thing
Gives (Err (Refused refusal)) read = read ≡ Err (said_of refusal)
Gives (Err NoMemory) read = ⊤

-- the same of a `Vec`, as the list of its items
abbrev pub GivesAll : {T : Type 0} → Result (Vec T Global) PlanError → Result (List T) Said → Type 0
GivesAll (Ok things) read = read ≡ Ok things.items
GivesAll (Err (Refused refusal)) read = read ≡ Err (said_of refusal)
GivesAll (Err NoMemory) read = ⊤

-- the same of JSON values, as a list of what they are
abbrev pub AreGiven : Result (Bor (List Value)) PlanError → Result (List Data) Said → Type 0
AreGiven (Ok values) read = read ≡ Ok (map view values.now)
AreGiven (Err (Refused refusal)) read = read ≡ Err (said_of refusal)
AreGiven (Err NoMemory) read = ⊤

-- the error that an error of the JSON reader makes
abbrev pub IsJsonError : Error → PlanError → Type 0
IsJsonError e (Refused refusal) = (refusal ≡ P1) × ¬ IsMemory e
IsJsonError e NoMemory = IsMemory e
