-- From the answers of the JSON reader to a plan or a refusal.
use Rattle.std.proofs.Common.{◌≡◌, ℕ, List, Bool, true, false, Option, Some, None, Result, Ok, Err, IsUtf8, refl, ap, if◌then◌else◌}
use Rattle.std.specs.Result.{IsErrAnd}
use Rattle.std.specs.Str.{is_utf8}
use Rattle.std.proofs.lemmas.Str.{IsUtf8-from_is_utf8, is_utf8-from_IsUtf8}
use Rattle.serde_json.specs.Data.{Data}
use Rattle.serde_json.specs.Read.{read}
use Rattle.serde_json.specs.Errors.{IsMemory}
use Rattle.serde_json.specs.declared.error.Error.{Error}
use Rattle.vx_plan.specs.declared.node.Plan.{Plan}
use Rattle.vx_plan.specs.declared.refusal.Refusal.{Refusal}
use Rattle.vx_plan.specs.declared.refusal.Refusal.TheVariants.{P6}
use Rattle.vx_plan.specs.declared.refusal.LimitName.TheVariants.{Text}
use Rattle.vx_plan.specs.Check.{check_plan, check_sizes}
use Rattle.vx_plan.specs.Outcome.{on_ok}
use Rattle.vx_plan.specs.Tree.{tree}
use Rattle.vx_json.specs.Place.{Said, and_then}
use Rattle.vx_json.specs.Plans.{json_of, or_not_json, plan_in, noted, parsed, checked}
use Rattle.vx_json.specs.Outcome.{Gives, IsJsonError}
use Rattle.vx_json.specs.declared.error.PlanError.{PlanError}
use Rattle.vx_json.specs.declared.error.PlanError.TheVariants.{Refused, NoMemory}

-- bytes that were read are their JSON value
pub json_of-read : (bytes : List ℕ) (d : Data) → IsUtf8 bytes → read bytes ≡ Some d → json_of bytes ≡ Some d
json_of-read bytes d utf8 is = rw (is_utf8-from_IsUtf8 bytes utf8) is

-- so what they spell is in that value
pub parsed-read : (bytes : List ℕ) (d : Data) → IsUtf8 bytes → read bytes ≡ Some d → parsed bytes ≡ and_then (plan_in d) (λ plan. Ok (noted d plan))
parsed-read bytes d utf8 is = ap (λ json. and_then (or_not_json json) (λ value. and_then (plan_in value) (λ plan. Ok (noted value plan)))) (json_of-read bytes d utf8 is)

none_if : (b : Bool) (value : Option Data) → (b ≡ true → value ≡ None) → (if b then value else None) ≡ None
none_if true value none = none refl
none_if false value none = refl

-- bytes that aren't read, though memory sufficed, are refused
pub json_of-unread : (bytes : List ℕ) → (IsUtf8 bytes → read bytes ≡ None) → json_of bytes ≡ None
json_of-unread bytes unread = none_if (is_utf8 bytes) (read bytes) (λ test. unread (IsUtf8-from_is_utf8 bytes test))

-- what an error of the JSON reader says of the bytes
pub Gives-json_error : {T : Type 0} (bytes : List ℕ) (more : Data → Result T Said) (e : Error) (result : Result T PlanError) → IsErrAnd result (IsJsonError e) → (¬ IsMemory e → IsUtf8 bytes → read bytes ≡ None)
    → Gives result (and_then (or_not_json (json_of bytes)) more)
Gives-json_error bytes more e (Ok thing) is unread = absurd is
Gives-json_error bytes more e (Err (Refused refusal)) is unread = rw (json_of-unread bytes (unread is.1), is.0)
Gives-json_error bytes more e (Err NoMemory) is unread = tt

-- what a refusal follows is refused
never_ok : (first : Result Unit Refusal) (refusal : Refusal) (nothing : Unit) → on_ok {B = Unit} first (λ _. Err refusal) ≡ Ok nothing → ⊥
never_ok (Ok u) refusal nothing is = absurd (cc)
never_ok (Err e) refusal nothing is = absurd (cc)

-- a plan of which the later stages refuse nothing is a checked plan
pub checked-ok : (long : Bool) (plan : Plan) (nothing : Unit) → checked long plan ≡ Ok nothing → check_plan plan ≡ Ok tt
checked-ok true plan nothing is = absurd (never_ok (check_sizes (tree plan.root)) (P6 Text) nothing is)
checked-ok false plan nothing is = is

pub ruleset checking = (checked-ok)
