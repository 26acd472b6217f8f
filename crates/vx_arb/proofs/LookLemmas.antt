-- The looks of a request, with one that is new or takes another's place.
use Rattle.std.proofs.Common.{◌≡◌, ℕ, suc, ◌+◌, ◌-◌, ◌<◌, ◌≤◌, Bool, true, false, not, cond, eqb, ltb, ◌||◌, Some, None, List, [], ◌∷◌, ◌++◌, length, set, refl, sym, ◌∙◌, ap, subst, arith, length-append}
use Rattle.std.specs.List.{position_or_len, position, sum_by, count_by}
use Rattle.std.proofs.lemmas.Bool.Decides.{nat_tests}
use Rattle.std.proofs.lemmas.List.Sums.{sum_by-cons, sum_by_push}
use Rattle.vx_arb.specs.declared.entries.Look.{Look}
use Rattle.vx_arb.specs.declared.rows.Live.{Live}
use Rattle.vx_arb.specs.Rows.{is_live}
use Rattle.vx_arb.specs.Unmet.{AreSingle}
use Rattle.vx_arb.specs.Books.{Asked, has_look, with_look, after_look, unseen}
use Rattle.vx_arb.specs.Keeping.{IsRequest}

-- the place of a job's look, or the number of looks
abbrev pub seat : List Look → ℕ → ℕ
seat looks job = position_or_len (λ (look : Look). eqb look.job job) looks

seat_found : (looks : List Look) (job i : ℕ) → position (λ (look : Look). eqb look.job job) looks ≡ Some i → (i ≡ seat looks job) × (seat looks job < length looks)
seat_found looks job i h =
    elim (ltb (seat looks job) (length looks)) as (λ b. ltb (seat looks job) (length looks) ≡ b → cond b (Some (seat looks job)) None ≡ Some i → (i ≡ seat looks job) × (seat looks job < length looks)) [
      | true ↦ λ t e. (let same : i ≡ seat looks job = cc in same, grind (arith, nat_tests))
      | false ↦ λ t e. absurd (cc)
    ] refl h

seat_missing : (looks : List Look) (job : ℕ) → position (λ (look : Look). eqb look.job job) looks ≡ None → length looks ≤ seat looks job
seat_missing looks job h =
    elim (ltb (seat looks job) (length looks)) as (λ b. ltb (seat looks job) (length looks) ≡ b → cond b (Some (seat looks job)) None ≡ None → length looks ≤ seat looks job) [
      | true ↦ λ t e. absurd (cc)
      | false ↦ λ t e. grind (arith, nat_tests)
    ] refl h

first_put : (looks : List Look) (new : Look) → seat looks new.job < length looks → set looks (seat looks new.job) new ≡ with_look looks new
first_put [] new h = absurd (omega arith)
first_put (look ∷ rest) new h =
    elim (eqb look.job new.job) as (λ b. cond (not b) (1 + seat rest new.job) 0 < length (look ∷ rest) → set (look ∷ rest) (cond (not b) (1 + seat rest new.job) 0) new ≡ cond b (new ∷ rest) (look ∷ with_look rest new)) [
      | true ↦ λ _. refl
      | false ↦ λ lt. let e : 1 + seat rest new.job ≡ suc (seat rest new.job) = omega arith in rw e (ap (λ looks. look ∷ looks) (first_put rest new (omega arith)))
    ] h

has_from : (looks : List Look) (job : ℕ) → seat looks job < length looks → has_look looks job ≡ true
has_from [] job h = absurd (omega arith)
has_from (look ∷ rest) job h =
    elim (eqb look.job job) as (λ b. cond (not b) (1 + seat rest job) 0 < length (look ∷ rest) → (b || has_look rest job) ≡ true)
    [ true ↦ λ _. refl | false ↦ λ lt. has_from rest job (omega arith) ] h

lacks_from : (looks : List Look) (job : ℕ) → length looks ≤ seat looks job → has_look looks job ≡ false
lacks_from [] job h = refl
lacks_from (look ∷ rest) job h =
    elim (eqb look.job job) as (λ b. length (look ∷ rest) ≤ cond (not b) (1 + seat rest job) 0 → (b || has_look rest job) ≡ false)
    [ true ↦ λ le. absurd (omega arith) | false ↦ λ le. lacks_from rest job (omega arith) ] h

pub look_found : (looks : List Look) (job i : ℕ) → position (λ (look : Look). eqb look.job job) looks ≡ Some i → has_look looks job ≡ true
look_found looks job i h = has_from looks job (seat_found looks job i h).1

pub look_missing : (looks : List Look) (job : ℕ) → position (λ (look : Look). eqb look.job job) looks ≡ None → has_look looks job ≡ false
look_missing looks job h = lacks_from looks job (seat_missing looks job h)

pub put_found : (looks : List Look) (new : Look) (i : ℕ) → position (λ (look : Look). eqb look.job new.job) looks ≡ Some i → set looks i new ≡ with_look looks new
put_found looks new i h = let f = seat_found looks new.job i h in rw f.0 (first_put looks new f.1)

pub put_missing : (looks : List Look) (new : Look) → has_look looks new.job ≡ false → with_look looks new ≡ looks ++ new ∷ []
put_missing [] new h = refl
put_missing (look ∷ rest) new h =
    elim (eqb look.job new.job) as (λ b. (b || has_look rest new.job) ≡ false → cond b (new ∷ rest) (look ∷ with_look rest new) ≡ look ∷ (rest ++ new ∷ []))
    [ true ↦ λ e. absurd (cc) | false ↦ λ e. ap (λ looks. look ∷ looks) (put_missing rest new e) ] h

pub length_put : (looks : List Look) (new : Look) → has_look looks new.job ≡ true → length (with_look looks new) ≡ length looks
length_put [] new h = absurd (cc)
length_put (look ∷ rest) new h =
    elim (eqb look.job new.job) as (λ b. (b || has_look rest new.job) ≡ true → length (cond b (new ∷ rest) (look ∷ with_look rest new)) ≡ length (look ∷ rest))
    [ true ↦ λ e. refl | false ↦ λ e. omega (arith, length_put rest new e) ] h

count_lacking : (looks : List Look) (job : ℕ) → has_look looks job ≡ false → count_by (λ (look : Look). eqb look.job job) looks ≡ 0
count_lacking [] job h = refl
count_lacking (look ∷ rest) job h =
    let f : Look → ℕ = λ look. cond (eqb look.job job) 1 0 in
    sum_by-cons f look rest ∙ (elim (eqb look.job job) as (λ b. (b || has_look rest job) ≡ false → cond b 1 0 + sum_by f rest ≡ 0)
    [ true ↦ λ e. absurd (cc) | false ↦ λ e. omega (arith, count_lacking rest job e) ] h)

-- a look in the place of another changes no count
count_put : (looks : List Look) (new : Look) (job : ℕ) → has_look looks new.job ≡ true → count_by (λ (look : Look). eqb look.job job) (with_look looks new) ≡ count_by (λ (look : Look). eqb look.job job) looks
count_put [] new job h = absurd (cc)
count_put (look ∷ rest) new job h =
    let f : Look → ℕ = λ look. cond (eqb look.job job) 1 0 in
    elim (eqb look.job new.job) as (λ b. eqb look.job new.job ≡ b → (b || has_look rest new.job) ≡ true → sum_by f (cond b (new ∷ rest) (look ∷ with_look rest new)) ≡ sum_by f (look ∷ rest)) [
      | true ↦ λ e there. let same : look.job ≡ new.job = grind (arith, nat_tests) in omega (arith, sum_by-cons f new rest, sum_by-cons f look rest, ap {B = ℕ} (λ n. cond (eqb n job) 1 0) same)
      | false ↦ λ e there. omega (arith, sum_by-cons f look (with_look rest new), sum_by-cons f look rest, count_put rest new job there)
    ] refl h

-- a new look leaves one a job
pub single_put : (looks : List Look) (new : Look) → AreSingle looks → AreSingle (with_look looks new)
single_put looks new single job =
    let f : Look → ℕ = λ look. cond (eqb look.job job) 1 0 in
    elim (has_look looks new.job) as (λ b. has_look looks new.job ≡ b → count_by (λ (look : Look). eqb look.job job) (with_look looks new) ≤ 1) [
      | true ↦ λ e. omega (arith, count_put looks new job e, single job)
      | false ↦ λ e. rw (put_missing looks new e) (pushed looks new job (single job) (count_lacking looks new.job e))
    ] refl
  where
    pushed : (looks : List Look) (new : Look) (job : ℕ) → count_by (λ (look : Look). eqb look.job job) looks ≤ 1 → count_by (λ (look : Look). eqb look.job new.job) looks ≡ 0 → count_by (λ (look : Look). eqb look.job job) (looks ++ new ∷ []) ≤ 1
    pushed looks new job one none =
        let f : Look → ℕ = λ look. cond (eqb look.job job) 1 0 in
        let sum : sum_by f (looks ++ new ∷ []) ≡ sum_by f looks + cond (eqb new.job job) 1 0 = sum_by_push f looks new in
        elim (eqb new.job job) as (λ b. eqb new.job job ≡ b → sum_by f (looks ++ new ∷ []) ≡ sum_by f looks + cond b 1 0 → sum_by f (looks ++ new ∷ []) ≤ 1) [
          | true ↦ λ e s. let same : new.job ≡ job = grind (arith, nat_tests) in
              omega (arith, none, ap {B = ℕ} (λ n. count_by (λ (look : Look). eqb look.job n) looks) same)
          | false ↦ λ e s. omega arith
        ] refl sum

-- after a look its job has one, and every other job as before
pub has_put : (looks : List Look) (new : Look) (job : ℕ) → has_look (with_look looks new) job ≡ (eqb new.job job || has_look looks job)
has_put [] new job = refl
has_put (look ∷ rest) new job =
    elim (eqb look.job new.job) as (λ b. eqb look.job new.job ≡ b → has_look (cond b (new ∷ rest) (look ∷ with_look rest new)) job ≡ (eqb new.job job || (eqb look.job job || has_look rest job))) [
      | true ↦ λ e. let same : look.job ≡ new.job = grind (arith, nat_tests) in rw same (twice (eqb new.job job) (has_look rest job))
      | false ↦ λ e. rw (has_put rest new job) (turned (eqb look.job job) (eqb new.job job) (has_look rest job))
    ] refl
  where
    twice : (a b : Bool) → (a || b) ≡ (a || (a || b))
    twice true b = refl
    twice false b = refl

    turned : (a b c : Bool) → (a || (b || c)) ≡ (b || (a || c))
    turned true true c = refl
    turned true false c = refl
    turned false b c = refl

-- a job that is live and has no look is among the unseen
pub unseen_some : (live : List Live) (looks : List Look) (job : ℕ) → is_live live job ≡ true → has_look looks job ≡ false → 0 < unseen live looks
unseen_some [] looks job there lacking = absurd (cc)
unseen_some (row ∷ rest) looks job there lacking =
    let f : Live → ℕ = λ row. cond (not (has_look looks row.job)) 1 0 in
    elim (eqb row.job job) as (λ b. eqb row.job job ≡ b → (b || is_live rest job) ≡ true → 0 < sum_by f (row ∷ rest)) [
      | true ↦ λ e h. let same : row.job ≡ job = grind (arith, nat_tests) in
          let none : has_look looks row.job ≡ false = ap (λ n. has_look looks n) same ∙ lacking in
          let counted : f row ≡ 1 = rw none refl in omega (arith, sum_by-cons f row rest, counted)
      | false ↦ λ e h. omega (arith, sum_by-cons f row rest, unseen_some rest looks job h lacking)
    ] refl there

fewer : (a b : Bool) → cond (not (a || b)) 1 0 ≤ cond (not b) 1 0
fewer true true = omega arith
fewer true false = omega arith
fewer false b = omega arith

-- a look makes no job unseen
unseen_less : (live : List Live) (looks : List Look) (new : Look) → unseen live (with_look looks new) ≤ unseen live looks
unseen_less [] looks new = omega arith
unseen_less (row ∷ rest) looks new =
    let f : Live → ℕ = λ row. cond (not (has_look looks row.job)) 1 0 in
    let g : Live → ℕ = λ row. cond (not (has_look (with_look looks new) row.job)) 1 0 in
    let head : g row ≤ f row = rw (has_put looks new row.job) (fewer (eqb new.job row.job) (has_look looks row.job)) in
    omega (arith, sum_by-cons f row rest, sum_by-cons g row rest, unseen_less rest looks new, head)

-- and the first at a live job one less
pub unseen_put : (live : List Live) (looks : List Look) (new : Look) → is_live live new.job ≡ true → has_look looks new.job ≡ false → unseen live (with_look looks new) + 1 ≤ unseen live looks
unseen_put [] looks new there lacking = absurd (cc)
unseen_put (row ∷ rest) looks new there lacking =
    let f : Live → ℕ = λ row. cond (not (has_look looks row.job)) 1 0 in
    let g : Live → ℕ = λ row. cond (not (has_look (with_look looks new) row.job)) 1 0 in
    let head : g row ≤ f row = rw (has_put looks new row.job) (fewer (eqb new.job row.job) (has_look looks row.job)) in
    elim (eqb row.job new.job) as (λ b. eqb row.job new.job ≡ b → (b || is_live rest new.job) ≡ true → sum_by g (row ∷ rest) + 1 ≤ sum_by f (row ∷ rest)) [
      | true ↦ λ e h. let same : row.job ≡ new.job = grind (arith, nat_tests) in
          let none : has_look looks row.job ≡ false = ap (λ n. has_look looks n) same ∙ lacking in
          let old : f row ≡ 1 = rw none refl in
          let one : eqb new.job row.job ≡ true = grind (arith, nat_tests) in
          let has : has_look (with_look looks new) row.job ≡ true = has_put looks new row.job ∙ ap (λ b. b || has_look looks row.job) one in
          let now : g row ≡ 0 = rw has refl in
          omega (arith, sum_by-cons f row rest, sum_by-cons g row rest, unseen_less rest looks new, old, now)
      | false ↦ λ e h. omega (arith, sum_by-cons f row rest, sum_by-cons g row rest, unseen_put rest looks new h lacking, head)
    ] refl there

pub unseen_again : (live : List Live) (looks : List Look) (new : Look) → unseen live (with_look looks new) ≤ unseen live looks
unseen_again = unseen_less

-- a request with a look in another's place, or a new one

pub kept_found : (looks : List Look) (room capacity : ℕ) (new : Look) (i : ℕ) → IsRequest looks room capacity → position (λ (look : Look). eqb look.job new.job) looks ≡ Some i → IsRequest (set looks i new) room capacity
kept_found looks room capacity new i h at =
    let size : length (with_look looks new) ≡ length looks = length_put looks new (look_found looks new.job i at) in
    rw (put_found looks new i at) (record {
      single = single_put looks new h.single;
      few = omega (arith, size, h.few);
      fits = omega (arith, size, h.fits);
    })

pub kept_missing : (looks : List Look) (room capacity : ℕ) (new : Look) → IsRequest looks room capacity → has_look looks new.job ≡ false → 0 < room → IsRequest (looks ++ new ∷ []) (room - 1) capacity
kept_missing looks room capacity new h lacking some =
    let size : length (looks ++ new ∷ []) ≡ length looks + 1 = omega (arith, length-append looks (new ∷ [])) in
    record {
      single = subst AreSingle (put_missing looks new lacking) (single_put looks new h.single);
      few = omega (arith, size, h.few);
      fits = omega (arith, size, h.fits);
    }

pub after_found : (request now : Asked) (new : Look) (i : ℕ) → request ≡ now → position (λ (look : Look). eqb look.job new.job) request.looks ≡ Some i → record request { looks = set request.looks i new } ≡ after_look now new
after_found request now new i same at =
    let has : has_look request.looks new.job ≡ true = look_found request.looks new.job i at in
    let put : set request.looks i new ≡ with_look request.looks new = put_found request.looks new i at in
    let here : record request { looks = set request.looks i new } ≡ after_look request new = rw (put, has) refl in
    here ∙ ap (λ (r : Asked). after_look r new) same

pub after_missing : (request now : Asked) (new : Look) → request ≡ now → position (λ (look : Look). eqb look.job new.job) request.looks ≡ None → record request { looks = request.looks ++ new ∷ []; room = request.room - 1 } ≡ after_look now new
after_missing request now new same at =
    let lacking : has_look request.looks new.job ≡ false = look_missing request.looks new.job at in
    let put : with_look request.looks new ≡ request.looks ++ new ∷ [] = put_missing request.looks new lacking in
    let here : record request { looks = request.looks ++ new ∷ []; room = request.room - 1 } ≡ after_look request new = rw (put, lacking) refl in
    here ∙ ap (λ (r : Asked). after_look r new) same

-- where a new look needs room, there is some
pub room_left : (request now : Asked) (new : Look) → request ≡ now → (has_look now.looks new.job ≡ false → 0 < now.room) → position (λ (look : Look). eqb look.job new.job) request.looks ≡ None → 0 < request.room
room_left request now new same room at =
    let lacking : has_look request.looks new.job ≡ false = look_missing request.looks new.job at in
    let there : has_look now.looks new.job ≡ false = subst (λ (r : Asked). has_look r.looks new.job ≡ false) same lacking in
    subst (λ (r : Asked). 0 < r.room) (sym same) (room there)
