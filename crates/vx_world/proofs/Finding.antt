-- What a lawful event says of the member and the request that it is for.
use Rattle.std.proofs.Common.{◌≡◌, ◌≢◌, ℕ, ◌+◌, ◌<◌, ◌≤◌, Bool, true, false, cond, eqb, ltb, ◌&&◌, Option, Some, None, IsSome, is_some, inl, inr, List, length, get_or, set, refl, sym, ◌∙◌, ap, subst, arith}
use Rattle.std.specs.List.{position}
use Rattle.std.specs.Option.{option_map_or}
use Rattle.std.proofs.lemmas.Bool.Decides.{nat_tests}
use Rattle.std.proofs.lemmas.List.Sums.{fails_before_first, passes_at_first}
use Rattle.std.proofs.lemmas.List.Folds.{find_at}
use Rattle.std.proofs.lemmas.Option.{slice_get_past, slice_get_cases}
use Rattle.vx_arb.specs.declared.members.Member.{Ghosts}
use Rattle.vx_world.specs.Scenes.{member_of, with_member}
use Rattle.vx_world.proofs.Turning.{seat, first_found, first_set}

-- a search that has come to a place and not found the job goes on
pub seat_more : {M L : Type 0} (ghosts : Ghosts M L) (members : List M) (job place : ℕ) (member : M) → member ≡ get_or members place member → ghosts.job_is member ≢ job → place < length members → place ≤ seat ghosts members job → place + 1 ≤ seat ghosts members job
seat_more {M} ghosts members job place member is ne lt le =
    elim (eqb place (seat ghosts members job)) as (λ b. eqb place (seat ghosts members job) ≡ b → place + 1 ≤ seat ghosts members job) [
      | true ↦ λ e. let at : place ≡ seat ghosts members job = grind (arith, nat_tests) in
          let passes : eqb (ghosts.job_is (get_or members (seat ghosts members job) member)) job ≡ true = passes_at_first (λ (m : M). eqb (ghosts.job_is m) job) members member (omega (arith, at)) in
          let same : get_or members (seat ghosts members job) member ≡ member = ap (λ n. get_or members n member) (sym at) ∙ sym is in
          let has : eqb (ghosts.job_is member) job ≡ true = ap (λ (m : M). eqb (ghosts.job_is m) job) (sym same) ∙ passes in
          absurd (ne (grind (arith, nat_tests)))
      | false ↦ λ e. let apart : place ≢ seat ghosts members job = grind (arith, nat_tests) in omega (arith, apart)
    ] refl

-- and one that finds it has its place
pub seat_found : {M L : Type 0} (ghosts : Ghosts M L) (members : List M) (job place : ℕ) (member : M) → member ≡ get_or members place member → ghosts.job_is member ≡ job → place < length members → place ≤ seat ghosts members job → Some place ≡ position (λ member. eqb (ghosts.job_is member) job) members
seat_found {M} ghosts members job place member is has lt le =
    elim (ltb place (seat ghosts members job)) as (λ b. ltb place (seat ghosts members job) ≡ b → Some place ≡ cond (ltb (seat ghosts members job) (length members)) (Some (seat ghosts members job)) None) [
      | true ↦ λ e. let before : place < seat ghosts members job = grind (arith, nat_tests) in
          let fails : eqb (ghosts.job_is (get_or members place member)) job ≡ false = fails_before_first (λ (m : M). eqb (ghosts.job_is m) job) members place member before in
          let passes : eqb (ghosts.job_is member) job ≡ true = grind (arith, nat_tests) in
          let not_it : eqb (ghosts.job_is member) job ≡ false = ap (λ (m : M). eqb (ghosts.job_is m) job) is ∙ fails in
          absurd (cc)
      | false ↦ λ e. let past : seat ghosts members job ≤ place = grind (arith, nat_tests) in
          let at : place ≡ seat ghosts members job = omega (arith, past) in
          let there : ltb (seat ghosts members job) (length members) ≡ true = grind (arith, nat_tests) in
          rw there (ap (λ (n : ℕ). Some n) at)
    ] refl

pub seat_none : {M L : Type 0} (ghosts : Ghosts M L) (members : List M) (job place : ℕ) → length members ≤ place → place ≤ seat ghosts members job → None ≡ position (λ member. eqb (ghosts.job_is member) job) members
seat_none ghosts members job place ended le =
    let past : ltb (seat ghosts members job) (length members) ≡ false = grind (arith, nat_tests) in
    rw past refl

-- where a member was found by its place
pub record At {M L : Type 0} (ghosts : Ghosts M L) (members : List M) (job place : ℕ) : Type 0 where
  pub is : place ≡ seat ghosts members job
  pub within : seat ghosts members job < length members

pub place_at : {M L : Type 0} (ghosts : Ghosts M L) (members : List M) (job place : ℕ) → position (λ member. eqb (ghosts.job_is member) job) members ≡ Some place → At ghosts members job place
place_at ghosts members job place h =
    elim (ltb (seat ghosts members job) (length members)) as (λ b. ltb (seat ghosts members job) (length members) ≡ b → cond b (Some (seat ghosts members job)) None ≡ Some place → At ghosts members job place) [
      | true ↦ λ t e. record { is = cc; within = grind (arith, nat_tests) }
      | false ↦ λ t e. absurd (cc)
    ] refl h

pub found_at : {M L : Type 0} (ghosts : Ghosts M L) (members : List M) (job place : ℕ) (d : M) → At ghosts members job place → member_of ghosts members job ≡ Some (get_or members place d)
found_at ghosts members job place d a = rw a.is (first_found ghosts members job d a.within)

pub set_at : {M L : Type 0} (ghosts : Ghosts M L) (members : List M) (job place : ℕ) (new : M) → At ghosts members job place → set members place new ≡ with_member ghosts members job new
set_at ghosts members job place new a = rw a.is (first_set ghosts members job new a.within)

-- a test of the member that was found
pub test_found : {M L : Type 0} (ghosts : Ghosts M L) (members : List M) (job place : ℕ) (member : M) (test : M → Bool) → position (λ member. eqb (ghosts.job_is member) job) members ≡ Some place → member ≡ get_or members place member → test member ≡ option_map_or test (member_of ghosts members job) false
test_found {M} ghosts members job place member test h is =
    let found : member_of ghosts members job ≡ Some (get_or members place member) = found_at ghosts members job place member (place_at ghosts members job place h) in
    sym (ap (λ (o : Option M). option_map_or test o false) (found ∙ ap (λ (m : M). Some m) (sym is)))

-- whether the member is there
pub test_there : {M L : Type 0} (ghosts : Ghosts M L) (members : List M) (job : ℕ) → is_some (position (λ member. eqb (ghosts.job_is member) job) members) ≡ option_map_or (λ member. true) (member_of ghosts members job) false
test_there {M} ghosts members job =
    let at = find_at (λ (member : M). eqb (ghosts.job_is member) job) members in
    elim ((slice_get_cases members (seat ghosts members job)).1) [
      | inl (x, lt, e, _) ↦ let in_it : ltb (seat ghosts members job) (length members) ≡ true = grind (arith, nat_tests) in
          rw in_it (sym (ap (λ (o : Option M). option_map_or (λ member. true) o false) (at ∙ e)))
      | inr (le, e) ↦ let out : ltb (seat ghosts members job) (length members) ≡ false = grind (arith, nat_tests) in
          rw out (sym (ap (λ (o : Option M). option_map_or (λ member. true) o false) (at ∙ e)))
    ]

pub seat_there : {M L : Type 0} (ghosts : Ghosts M L) (members : List M) (job : ℕ) → IsSome (member_of ghosts members job) → IsSome (position (λ member. eqb (ghosts.job_is member) job) members)
seat_there {M} ghosts members job some =
    let at = find_at (λ (member : M). eqb (ghosts.job_is member) job) members in
    elim ((slice_get_cases members (seat ghosts members job)).1) [
      | inl (x, lt, e, _) ↦ let in_it : ltb (seat ghosts members job) (length members) ≡ true = grind (arith, nat_tests) in rw in_it refl
      | inr (le, e) ↦ let nothing : IsSome {T = M} None = subst (λ (o : Option M). IsSome o) (at ∙ e) some in absurd (cc)
    ]

-- and it fails where there is none
pub test_missing : {M L : Type 0} (ghosts : Ghosts M L) (members : List M) (job : ℕ) (test : M → Bool) → position (λ member. eqb (ghosts.job_is member) job) members ≡ None → false ≡ option_map_or test (member_of ghosts members job) false
test_missing {M} ghosts members job test h =
    elim (ltb (seat ghosts members job) (length members)) as (λ b. ltb (seat ghosts members job) (length members) ≡ b → cond b (Some (seat ghosts members job)) None ≡ None → false ≡ option_map_or test (member_of ghosts members job) false) [
      | true ↦ λ t e. absurd (cc)
      | false ↦ λ t e. let past : length members ≤ seat ghosts members job = grind (arith, nat_tests) in
          let none : member_of ghosts members job ≡ None = find_at (λ (member : M). eqb (ghosts.job_is member) job) members ∙ slice_get_past members (seat ghosts members job) past in
          sym (ap (λ (o : Option M). option_map_or test o false) none)
    ] refl h

pub both : (a b : Bool) → (a && b) ≡ true → (a ≡ true) × (b ≡ true)
both true true h = (refl, refl)
both true false h = absurd (cc)
both false b h = absurd (cc)
