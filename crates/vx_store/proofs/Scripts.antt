-- Calls that fail by a list.
use Rattle.std.proofs.Common.{◌≡◌, ℕ, ◌<◌, ◌≤◌, nat_lt, ◌||◌, Bool, ap, List, [], ◌∷◌, true, false, refl, ◌∙◌, arith}
use Rattle.std.proofs.lemmas.Bool.{and_parts, and_from, ltb-true, lt-ltb, ne_eqb}
use Rattle.vx_base.specs.Calls.{none_to_fail}
use Rattle.vx_store.specs.Script.{is_to_fail}

-- if no call is still to fail, none is later
pub none_is_later : (fails : List ℕ) (calls later : ℕ) → calls ≤ later → none_to_fail fails calls ≡ true → none_to_fail fails later ≡ true
none_is_later [] calls later within none = refl
none_is_later (k ∷ fails) calls later within none =
    let parts = and_parts (nat_lt k calls) (none_to_fail fails calls) none in
    let below : k < calls = ltb-true k calls parts.0 in
    and_from (nat_lt k later) (none_to_fail fails later) (lt-ltb k later (omega arith)) (none_is_later fails calls later within parts.1)

-- if no call is still to fail, the next one doesn't
pub next_is_fine : (fails : List ℕ) (calls : ℕ) → none_to_fail fails calls ≡ true → is_to_fail fails calls ≡ false
next_is_fine [] calls none = refl
next_is_fine (k ∷ fails) calls none =
    let parts = and_parts (nat_lt k calls) (none_to_fail fails calls) none in
    let below : k < calls = ltb-true k calls parts.0 in
    ap (λ (b : Bool). b || is_to_fail fails calls) (ne_eqb k calls (λ same. omega arith)) ∙ next_is_fine fails calls parts.1
