-- A loop over rows, one row after another, and the first row that faults.
use Rattle.std.proofs.Common.{◌≡◌, suc, Bool, true, false, cond, List, [], ◌∷◌, ◌++◌, length, take, reverse, All, Some, false, refl, sym, ap, ◌∙◌, subst, arith, append_assoc, map}
use Rattle.std.proofs.lemmas.List.{append-nil, reverse-append}
use Rattle.std.specs.Prelude.{filter, slice_get}
use Rattle.vx_value.specs.Row.{Row}
use Rattle.vx_expr.specs.declared.expression.Expr.{Expr}
use Rattle.vx_expr.specs.declared.outcome.Fault.{Fault}
use Rattle.vx_meaning.specs.Rows.{holds, image, first_fault, IsSound}
use Rattle.vx_meaning.specs.Faulty.{StopsAtRow}
use Rattle.vx_meaning.specs.declared.rowwise.Image.{Image}
use Rattle.vx_meaning.specs.declared.rowwise.Image.TheVariants as got
use Rattle.vx_meaning.specs.declared.rowwise.Verdict.{Verdict}
use Rattle.vx_meaning.specs.declared.rowwise.Verdict.TheVariants as says
use Rattle.vx_meaning.specs.Images.{IsImage, IsVerdict}

-- the first row of exactly this list on which an expression faults
abbrev pub FaultsIn : List Expr → List Row → Row → Fault → Type 0
FaultsIn exprs rows row code = StopsAtRow exprs (λ input. input ≡ rows) row code

-- every item after a first one, and that one
pub All-cons : {X : Type 0} (P : X → Type 0) (x : X) (xs : List X) → P x → All P xs → All P (x ∷ xs)
All-cons P x xs here later Prim.Native.Nat.zero d within = here
All-cons P x xs here later (Prim.Native.Nat.suc k) d within = later k d (omega arith)

pub FaultsIn-here : (exprs : List Expr) (row : Row) (rows : List Row) (code : Fault) → first_fault exprs row ≡ Some code → FaultsIn exprs (row ∷ rows) row code
FaultsIn-here exprs row rows code fault = record { input = row ∷ rows; from = refl; place = 0; before = λ k d within. absurd (omega arith); there = refl; fault = fault }

-- behind a row that doesn't fault
pub FaultsIn-later : (exprs : List Expr) (first : Row) (rows : List Row) (row : Row) (code : Fault) → IsSound exprs first → FaultsIn exprs rows row code → FaultsIn exprs (first ∷ rows) row code
FaultsIn-later exprs first rows row code sound stop = record {
  input = first ∷ rows;
  from = refl;
  place = suc stop.place;
  before = All-cons (IsSound exprs) first (take stop.place rows) sound (subst (λ input. All (IsSound exprs) (take stop.place input)) stop.from stop.before);
  there = ap (λ input. slice_get input stop.place) (sym stop.from) ∙ stop.there;
  fault = stop.fault;
}

-- ---- a loop over what is left, of which row was the first

later-sound : (exprs : List Expr) (rest later : List Row) (row : Row) → rest ≡ row ∷ later → IsSound exprs row → All (IsSound exprs) later → All (IsSound exprs) rest
later-sound exprs rest later row is sound all = subst (All (IsSound exprs)) (sym is) (All-cons (IsSound exprs) row later sound all)

pub sound-more : (exprs : List Expr) (start rest later : List Row) (row : Row) → (All (IsSound exprs) rest → All (IsSound exprs) start) → rest ≡ row ∷ later → IsSound exprs row
    → All (IsSound exprs) later → All (IsSound exprs) start
sound-more exprs start rest later row so_far is sound all = so_far (later-sound exprs rest later row is sound all)

pub stop-more : (exprs : List Expr) (start rest later : List Row) (row : Row) → ((r : Row) (c : Fault) → FaultsIn exprs rest r c → FaultsIn exprs start r c) → rest ≡ row ∷ later → IsSound exprs row
    → (r : Row) (c : Fault) → FaultsIn exprs later r c → FaultsIn exprs start r c
stop-more exprs start rest later row so_far is sound r c stop = so_far r c (subst (λ rows. FaultsIn exprs rows r c) (sym is) (FaultsIn-later exprs row later r c sound stop))

pub stop-here : (exprs : List Expr) (all start rest later : List Row) (row : Row) (code : Fault) → start ≡ all → ((r : Row) (c : Fault) → FaultsIn exprs rest r c → FaultsIn exprs start r c) → rest ≡ row ∷ later
    → first_fault exprs row ≡ Some code → FaultsIn exprs all row code
stop-here exprs all start rest later row code begins so_far is fault =
    subst (λ rows. FaultsIn exprs rows row code) begins (so_far row code (subst (λ rows. FaultsIn exprs rows row code) (sym is) (FaultsIn-here exprs row later code fault)))

pub map-more : {X Y : Type 0} (f : X → Y) (start rest later : List X) (x : X) (done next : List Y) → done ++ map f rest ≡ map f start → rest ≡ x ∷ later → next ≡ done ++ f x ∷ []
    → next ++ map f later ≡ map f start
map-more f start rest later x done next so_far is pushed =
    ap (λ front. front ++ map f later) pushed ∙ append_assoc done (f x ∷ []) (map f later) ∙ sym (ap (λ rows. done ++ map f rows) is) ∙ so_far

pub filter-keep : {X : Type 0} (test : X → Bool) (start rest later : List X) (x : X) (done next : List X) → done ++ filter test rest ≡ filter test start → rest ≡ x ∷ later → test x ≡ true → next ≡ done ++ x ∷ []
    → next ++ filter test later ≡ filter test start
filter-keep test start rest later x done next so_far is holds pushed =
    ap (λ front. front ++ filter test later) pushed ∙ append_assoc done (x ∷ []) (filter test later) ∙ sym (ap (λ rows. done ++ filter test rows) is ∙ ap (λ b. done ++ cond b (x ∷ filter test later) (filter test later)) holds) ∙ so_far

pub filter-leave : {X : Type 0} (test : X → Bool) (start rest later : List X) (x : X) (done : List X) → done ++ filter test rest ≡ filter test start → rest ≡ x ∷ later → test x ≡ false
    → done ++ filter test later ≡ filter test start
filter-leave test start rest later x done so_far is holds =
    sym (ap (λ rows. done ++ filter test rows) is ∙ ap (λ b. done ++ cond b (x ∷ filter test later) (filter test later)) holds) ∙ so_far

-- ---- what is known in an arm

pub image-row : (exprs : List Expr) (row : Row) (image_is : Image) (cells : Row) → IsImage exprs row image_is → image_is ≡ got.Row cells → IsSound exprs row × (cells ≡ image exprs row)
image-row exprs row image_is cells h is = subst (IsImage exprs row) is h

pub image-fault : (exprs : List Expr) (row : Row) (image_is : Image) (code : Fault) → IsImage exprs row image_is → image_is ≡ got.Fault code → first_fault exprs row ≡ Some code
image-fault exprs row image_is code h is = subst (IsImage exprs row) is h

pub verdict-keep : (predicate : Expr) (row : Row) (verdict : Verdict) → IsVerdict predicate row verdict → verdict ≡ says.Keep → IsSound (predicate ∷ []) row × (holds predicate row ≡ true)
verdict-keep predicate row verdict h is = subst (IsVerdict predicate row) is h

pub verdict-leave : (predicate : Expr) (row : Row) (verdict : Verdict) → IsVerdict predicate row verdict → verdict ≡ says.Leave → IsSound (predicate ∷ []) row × (holds predicate row ≡ false)
verdict-leave predicate row verdict h is = subst (IsVerdict predicate row) is h

pub verdict-fault : (predicate : Expr) (row : Row) (verdict : Verdict) (code : Fault) → IsVerdict predicate row verdict → verdict ≡ says.Fault code → first_fault (predicate ∷ []) row ≡ Some code
verdict-fault predicate row verdict code h is = subst (IsVerdict predicate row) is h

-- ---- the end of a loop

pub filter-end : {X : Type 0} (test : X → Bool) (all start rest : List X) (done : List X) → start ≡ all → length rest ≡ 0 → done ++ filter test rest ≡ filter test start → done ≡ filter test all
filter-end test all start [] done begins none so_far = sym (append-nil done) ∙ so_far ∙ ap (filter test) begins
filter-end test all start (x ∷ rest) done begins none so_far = absurd (omega arith)

-- ---- items that come off the end of one list and go to the end of another

pub turned-more : {X : Type 0} (all rest later done next : List X) (x : X) → rest ++ reverse done ≡ all → rest ≡ later ++ x ∷ [] → next ≡ done ++ x ∷ [] → later ++ reverse next ≡ all
turned-more all rest later done next x so_far is pushed =
    ap (λ back. later ++ reverse back) pushed ∙ ap (λ back. later ++ back) (reverse-append done (x ∷ [])) ∙ sym (append_assoc later (x ∷ []) (reverse done)) ∙ sym (ap (λ front. front ++ reverse done) is) ∙ so_far

pub turned-all : {X : Type 0} (all rest done : List X) → rest ++ reverse done ≡ all → rest ≡ [] → reverse done ≡ all
turned-all all rest done so_far is = sym (ap (λ front. front ++ reverse done) is) ∙ so_far

pub ruleset turning = (turned-more, turned-all)
