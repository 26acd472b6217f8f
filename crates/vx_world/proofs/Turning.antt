-- A world keeps its rule where one member changes with its row.
use Rattle.std.proofs.Common.{◌≡◌, ◌≢◌, ℕ, suc, ◌+◌, ◌<◌, Bool, true, false, not, cond, eqb, Option, Some, None, MatchOption, List, [], ◌∷◌, All, length, get_or, set, refl, sym, ◌∙◌, ap, subst, arith}
use Rattle.std.specs.List.{position_or_len, sum_by, count_by}
use Rattle.std.proofs.lemmas.Bool.Decides.{nat_tests}
use Rattle.std.proofs.lemmas.List.Sums.{sum_by-cons}
use Rattle.vx_arb.specs.declared.members.Member.{Ghosts}
use Rattle.vx_arb.specs.Books.{IsBooks, Stands}
use Rattle.vx_arb.specs.Rows.{is_live, capacity_at}
use Rattle.vx_world.specs.Scenes.{Scene, IsWorld, Fits, member_of, with_member}

-- where the first member of a job stands
abbrev pub seat : {M L : Type 0} → Ghosts M L → List M → ℕ → ℕ
seat ghosts members job = position_or_len (λ member. eqb (ghosts.job_is member) job) members

pub first_found : {M L : Type 0} (ghosts : Ghosts M L) (members : List M) (job : ℕ) (d : M) → seat ghosts members job < length members → member_of ghosts members job ≡ Some (get_or members (seat ghosts members job) d)
first_found ghosts [] job d h = absurd (omega arith)
first_found {M} ghosts (member ∷ rest) job d h =
    elim (eqb (ghosts.job_is member) job) as (λ b. cond (not b) (1 + seat ghosts rest job) 0 < length (member ∷ rest) → cond b (Some member) (member_of ghosts rest job) ≡ Some (get_or (member ∷ rest) (cond (not b) (1 + seat ghosts rest job) 0) d)) [
      | true ↦ λ _. refl
      | false ↦ λ lt. let e : 1 + seat ghosts rest job ≡ suc (seat ghosts rest job) = omega arith in rw e (first_found ghosts rest job d (omega arith))
    ] h

pub first_set : {M L : Type 0} (ghosts : Ghosts M L) (members : List M) (job : ℕ) (new : M) → seat ghosts members job < length members → set members (seat ghosts members job) new ≡ with_member ghosts members job new
first_set ghosts [] job new h = absurd (omega arith)
first_set {M} ghosts (member ∷ rest) job new h =
    elim (eqb (ghosts.job_is member) job) as (λ b. cond (not b) (1 + seat ghosts rest job) 0 < length (member ∷ rest) → set (member ∷ rest) (cond (not b) (1 + seat ghosts rest job) 0) new ≡ cond b (new ∷ rest) (member ∷ with_member ghosts rest job new)) [
      | true ↦ λ _. refl
      | false ↦ λ lt. let e : 1 + seat ghosts rest job ≡ suc (seat ghosts rest job) = omega arith in rw e (ap (λ (members : List M). member ∷ members) (first_set ghosts rest job new (omega arith)))
    ] h

-- a member that was found has the job
pub found_job : {M L : Type 0} (ghosts : Ghosts M L) (members : List M) (job : ℕ) (member : M) → member_of ghosts members job ≡ Some member → ghosts.job_is member ≡ job
found_job ghosts [] job member h = absurd (cc)
found_job ghosts (first ∷ rest) job member h =
    elim (eqb (ghosts.job_is first) job) as (λ b. eqb (ghosts.job_is first) job ≡ b → cond b (Some first) (member_of ghosts rest job) ≡ Some member → ghosts.job_is member ≡ job) [
      | true ↦ λ e f. let same : first ≡ member = cc in let is : ghosts.job_is first ≡ job = grind (arith, nat_tests) in ap ghosts.job_is (sym same) ∙ is
      | false ↦ λ e f. found_job ghosts rest job member f
    ] refl h

-- after a change of a job's member it is found
pub found_new : {M L : Type 0} (ghosts : Ghosts M L) (members : List M) (job : ℕ) (before after : M) → member_of ghosts members job ≡ Some before → ghosts.job_is after ≡ job → member_of ghosts (with_member ghosts members job after) job ≡ Some after
found_new ghosts [] job before after h same = absurd (cc)
found_new ghosts (first ∷ rest) job before after h same =
    elim (eqb (ghosts.job_is first) job) as (λ b. eqb (ghosts.job_is first) job ≡ b → cond b (Some first) (member_of ghosts rest job) ≡ Some before → member_of ghosts (cond b (after ∷ rest) (first ∷ with_member ghosts rest job after)) job ≡ Some after) [
      | true ↦ λ e f. let is : eqb (ghosts.job_is after) job ≡ true = grind (arith, nat_tests) in rw is refl
      | false ↦ λ e f. rw e (found_new ghosts rest job before after f same)
    ] refl h

-- and other jobs' members are as before
pub found_others : {M L : Type 0} (ghosts : Ghosts M L) (members : List M) (job other : ℕ) (after : M) → ghosts.job_is after ≡ job → other ≢ job → member_of ghosts (with_member ghosts members job after) other ≡ member_of ghosts members other
found_others ghosts [] job other after same ne = refl
found_others {M} ghosts (first ∷ rest) job other after same ne =
    elim (eqb (ghosts.job_is first) job) as (λ b. eqb (ghosts.job_is first) job ≡ b → member_of ghosts (cond b (after ∷ rest) (first ∷ with_member ghosts rest job after)) other ≡ cond (eqb (ghosts.job_is first) other) (Some first) (member_of ghosts rest other)) [
      | true ↦ λ e. let a : eqb (ghosts.job_is after) other ≡ false = grind (arith, nat_tests) in let f : eqb (ghosts.job_is first) other ≡ false = grind (arith, nat_tests) in rw (a, f) refl
      | false ↦ λ e. ap (λ (o : Option M). cond (eqb (ghosts.job_is first) other) (Some first) o) (found_others ghosts rest job other after same ne)
    ] refl

pub sum_turned : {M L : Type 0} (ghosts : Ghosts M L) (members : List M) (job : ℕ) (before after : M) → member_of ghosts members job ≡ Some before → sum_by ghosts.capacity_is (with_member ghosts members job after) + ghosts.capacity_is before ≡ sum_by ghosts.capacity_is members + ghosts.capacity_is after
sum_turned ghosts [] job before after h = absurd (cc)
sum_turned ghosts (first ∷ rest) job before after h =
    elim (eqb (ghosts.job_is first) job) as (λ b. cond b (Some first) (member_of ghosts rest job) ≡ Some before → sum_by ghosts.capacity_is (cond b (after ∷ rest) (first ∷ with_member ghosts rest job after)) + ghosts.capacity_is before ≡ sum_by ghosts.capacity_is (first ∷ rest) + ghosts.capacity_is after) [
      | true ↦ λ f. let same : first ≡ before = cc in
          omega (arith, sum_by-cons ghosts.capacity_is after rest, sum_by-cons ghosts.capacity_is first rest, ap ghosts.capacity_is same)
      | false ↦ λ f. omega (arith, sum_by-cons ghosts.capacity_is first (with_member ghosts rest job after), sum_by-cons ghosts.capacity_is first rest, sum_turned ghosts rest job before after f)
    ] h

pub count_turned : {M L : Type 0} (ghosts : Ghosts M L) (members : List M) (job other : ℕ) (after : M) → ghosts.job_is after ≡ job → count_by (λ member. eqb (ghosts.job_is member) other) (with_member ghosts members job after) ≡ count_by (λ member. eqb (ghosts.job_is member) other) members
count_turned ghosts [] job other after same = refl
count_turned {M} ghosts (first ∷ rest) job other after same =
    let f : M → ℕ = λ member. cond (eqb (ghosts.job_is member) other) 1 0 in
    elim (eqb (ghosts.job_is first) job) as (λ b. eqb (ghosts.job_is first) job ≡ b → sum_by f (cond b (after ∷ rest) (first ∷ with_member ghosts rest job after)) ≡ sum_by f (first ∷ rest)) [
      | true ↦ λ e. let is : ghosts.job_is after ≡ ghosts.job_is first = grind (arith, nat_tests) in
          omega (arith, sum_by-cons f after rest, sum_by-cons f first rest, ap {B = ℕ} (λ n. cond (eqb n other) 1 0) is)
      | false ↦ λ e. omega (arith, sum_by-cons f first (with_member ghosts rest job after), sum_by-cons f first rest, count_turned ghosts rest job other after same)
    ] refl

-- what an event has to say for a world to keep its rule: one member changes, and its row and what is free with it
pub record Agrees {M L : Type 0} (ghosts : Ghosts M L) (old new : Scene M) (job : ℕ) (before after : M) : Type 0 where
  pub found : member_of ghosts old.members job ≡ Some before
  pub same_job : ghosts.job_is after ≡ ghosts.job_is before
  pub members_are : new.members ≡ with_member ghosts old.members job after
  pub within : All (Fits ghosts) new.members
  pub books_hold : IsBooks new.books
  pub total : new.books.total ≡ old.books.total
  pub moved : new.books.free + ghosts.capacity_is after ≡ old.books.free + ghosts.capacity_is before
  pub row : capacity_at new.books.live job ≡ ghosts.capacity_is after
  pub others : (other : ℕ) → other ≢ job → capacity_at new.books.live other ≡ capacity_at old.books.live other
  pub lives : (other : ℕ) → other ≢ job → is_live new.books.live other ≡ is_live old.books.live other
  pub stands : MatchOption new.request (new.books.standing ≡ None) (Stands new.books)

pub by_job : (P : ℕ → Type 0) (job other : ℕ) → P job → (other ≢ job → P other) → P other
by_job P job other same apart =
    elim (eqb other job) as (λ b. eqb other job ≡ b → P other) [
      | true ↦ λ e. let is : job ≡ other = grind (arith, nat_tests) in subst P is same
      | false ↦ λ e. let ne : other ≢ job = grind (arith, nat_tests) in apart ne
    ] refl

tied_same : {M L : Type 0} (ghosts : Ghosts M L) (o : Option M) (live kept : Bool) (had has : ℕ) → live ≡ kept → has ≡ had → MatchOption o (kept ≡ false) (λ member. had ≡ ghosts.capacity_is member) → MatchOption o (live ≡ false) (λ member. has ≡ ghosts.capacity_is member)
tied_same ghosts None live kept had has e f h = e ∙ h
tied_same ghosts (Some member) live kept had has e f h = f ∙ h

pub world_turned : {M L : Type 0} (ghosts : Ghosts M L) (old new : Scene M) (job : ℕ) (before after : M) → IsWorld ghosts old → Agrees ghosts old new job before after → IsWorld ghosts new
world_turned {M} ghosts old new job before after w a =
    let is : ghosts.job_is after ≡ job = a.same_job ∙ found_job ghosts old.members job before a.found in
    let members : new.members ≡ with_member ghosts old.members job after = a.members_are in
    record {
      books_hold = a.books_hold;
      adds_up = rw members (omega (arith, sum_turned ghosts old.members job before after a.found, w.adds_up, a.moved, a.total));
      within = a.within;
      tied = λ other. rw members (by_job (λ n. MatchOption (member_of ghosts (with_member ghosts old.members job after) n) (is_live new.books.live n ≡ false) (λ member. capacity_at new.books.live n ≡ ghosts.capacity_is member)) job other
          (subst (λ (o : Option M). MatchOption o (is_live new.books.live job ≡ false) (λ member. capacity_at new.books.live job ≡ ghosts.capacity_is member)) (sym (found_new ghosts old.members job before after a.found is)) a.row)
          (λ ne. subst (λ (o : Option M). MatchOption o (is_live new.books.live other ≡ false) (λ member. capacity_at new.books.live other ≡ ghosts.capacity_is member)) (sym (found_others ghosts old.members job other after is ne))
          (tied_same ghosts (member_of ghosts old.members other) _ _ _ _ (a.lives other ne) (a.others other ne) (w.tied other))));
      single = λ other. rw members (omega (arith, count_turned ghosts old.members job other after is, w.single other));
      stands = a.stands;
    }
