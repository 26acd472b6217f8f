-- What an event does to a world: a member changes, and its row and what is free with it.
use Rattle.std.proofs.Common.{◌≡◌, ◌≢◌, ℕ, ◌+◌, ◌-◌, Bool, true, false, eqb, Option, Some, None, IsSomeAnd, MatchOption, List, get_or, set, refl, sym, ◌∙◌, ap, subst, arith}
use Rattle.std.specs.List.{position, sum_by}
use Rattle.std.specs.Option.{option_map_or}
use Rattle.std.proofs.lemmas.List.Elements.{All-set}
use Rattle.vx_arb.specs.declared.members.Member.{Ghosts}
use Rattle.vx_arb.specs.declared.entries.Entry.{Entry}
use Rattle.vx_arb.specs.declared.rows.Live.{Live}
use Rattle.vx_arb.specs.Books.{Books, Asked, IsBooks, Stands, after_taking}
use Rattle.vx_arb.specs.Rows.{is_live, capacity_at, with_capacity, IsTied}
use Rattle.vx_arb.proofs.RowLemmas.{capacity_set, capacity_others, live_set, sum_set}
use Rattle.vx_world.specs.Scenes.{Scene, IsWorld, Fits, member_of, with_member}
use Rattle.vx_world.specs.Steps.{Turns, Lasts, on_request}
use Rattle.vx_world.proofs.Turning.{found_job, world_turned}
use Rattle.vx_world.proofs.Finding.{place_at, found_at, set_at}

-- the books change at one job's row at most, and what is free with it
pub record Rewrites (old new : Books) (job : ℕ) : Type 0 where
  pub total : new.total ≡ old.total
  pub moved : new.free + capacity_at new.live job ≡ old.free + capacity_at old.live job
  pub others : (other : ℕ) → other ≢ job → capacity_at new.live other ≡ capacity_at old.live other
  pub lives : (other : ℕ) → other ≢ job → is_live new.live other ≡ is_live old.live other

pub rewrites_same : (old new : Books) (job : ℕ) → new.total ≡ old.total → new.free ≡ old.free → new.live ≡ old.live → Rewrites old new job
rewrites_same old new job total free live = record {
  total = total;
  moved = omega (arith, free, ap (λ (live : List Live). capacity_at live job) live);
  others = λ other ne. ap (λ (live : List Live). capacity_at live other) live;
  lives = λ other ne. ap (λ (live : List Live). is_live live other) live;
}

pub rewrites_set : (old new : Books) (job capacity : ℕ) → IsBooks old → IsBooks new → is_live old.live job ≡ true → new.total ≡ old.total → new.live ≡ with_capacity old.live job capacity → Rewrites old new job
rewrites_set old new job capacity o n live total is =
    let sums : sum_by (λ (row : Live). row.capacity) new.live ≡ sum_by (λ (row : Live). row.capacity) (with_capacity old.live job capacity) = ap (λ (live : List Live). sum_by (λ (row : Live). row.capacity) live) is in
    let row : capacity_at new.live job ≡ capacity = ap (λ (live : List Live). capacity_at live job) is ∙ capacity_set old.live job capacity live in
    record {
      total = total;
      moved = omega (arith, sums, row, sum_set old.live job capacity live, o.adds_up, n.adds_up, total);
      others = λ other ne. ap (λ (live : List Live). capacity_at live other) is ∙ capacity_others old.live job capacity other ne;
      lives = λ other ne. ap (λ (live : List Live). is_live live other) is ∙ live_set old.live job capacity other;
    }

-- a shrink or a reclaim rewrites the row, where an entry was written
pub rewrites_taken : (old : Books) (job amount : ℕ) (entry : Option Entry) → IsBooks old → IsBooks (after_taking old job amount entry) → is_live old.live job ≡ true → Rewrites old (after_taking old job amount entry) job
rewrites_taken old job amount None o n live = rewrites_same old (after_taking old job amount None) job refl refl refl
rewrites_taken old job amount (Some entry) o n live = rewrites_set old (after_taking old job amount (Some entry)) job (capacity_at old.live job - amount) o n live refl refl

-- a member that stands at a place
pub record Seated {M L : Type 0} (ghosts : Ghosts M L) (members : List M) (job place : ℕ) (before : M) : Type 0 where
  pub place_is : Some place ≡ position (λ member. eqb (ghosts.job_is member) job) members
  pub is : before ≡ get_or members place before

pub seated : {M L : Type 0} (ghosts : Ghosts M L) (members list : List M) (job place : ℕ) (before : M) → list ≡ members → Some place ≡ position (λ member. eqb (ghosts.job_is member) job) list → before ≡ get_or members place before → Seated ghosts members job place before
seated {M} ghosts members list job place before same at is = record { place_is = at ∙ ap (λ (l : List M). position (λ member. eqb (ghosts.job_is member) job) l) same; is = is }

pub seated_found : {M L : Type 0} (ghosts : Ghosts M L) (members : List M) (job place : ℕ) (before : M) → Seated ghosts members job place before → member_of ghosts members job ≡ Some before
seated_found {M} ghosts members job place before s = found_at ghosts members job place before (place_at ghosts members job place (sym s.place_is)) ∙ ap (λ (m : M). Some m) (sym s.is)

pub seated_job : {M L : Type 0} (ghosts : Ghosts M L) (members : List M) (job place : ℕ) (before : M) → Seated ghosts members job place before → ghosts.job_is before ≡ job
seated_job ghosts members job place before s = found_job ghosts members job before (seated_found ghosts members job place before s)

pub seated_set : {M L : Type 0} (ghosts : Ghosts M L) (members : List M) (job place : ℕ) (before after : M) → Seated ghosts members job place before → set members place after ≡ with_member ghosts members job after
seated_set ghosts members job place before after s = set_at ghosts members job place after (place_at ghosts members job place (sym s.place_is))

-- its row has its capacity
pub seated_row : {M L : Type 0} (ghosts : Ghosts M L) (scene : Scene M) (job place : ℕ) (before : M) → IsWorld ghosts scene → Seated ghosts scene.members job place before → capacity_at scene.books.live job ≡ ghosts.capacity_is before
seated_row {M} ghosts scene job place before w s =
    subst (λ (o : Option M). MatchOption o (is_live scene.books.live job ≡ false) (λ member. capacity_at scene.books.live job ≡ ghosts.capacity_is member))
    (seated_found ghosts scene.members job place before s) (w.tied job)

pub seated_tied : {M L : Type 0} (ghosts : Ghosts M L) (scene : Scene M) (job place : ℕ) (before : M) → IsWorld ghosts scene → Seated ghosts scene.members job place before → is_live scene.books.live job ≡ true → IsTied scene.books.live (ghosts.job_is before) (ghosts.capacity_is before)
seated_tied {M} ghosts scene job place before w s live =
    let is = seated_job ghosts scene.members job place before s in
    subst (λ n. IsTied scene.books.live n (ghosts.capacity_is before)) (sym is) (record { there = live; same = seated_row ghosts scene job place before w s })

pub seated_turns : {M L : Type 0} (ghosts : Ghosts M L) (members : List M) (job place : ℕ) (before after : M) (change : M → M → Type 0) → Seated ghosts members job place before → change before after → Lasts ghosts before after → Turns ghosts members job change (set members place after)
seated_turns ghosts members job place before after change s turned lasts = record {
  before = before;
  after = after;
  found = seated_found ghosts members job place before s;
  turned = turned;
  lasts = lasts;
  members = seated_set ghosts members job place before after s;
}

-- the world keeps its rule
pub world_changed : {M L : Type 0} (ghosts : Ghosts M L) (scene : Scene M) (job place : ℕ) (before after : M) (books : Books) (request : Option Asked) → IsWorld ghosts scene → Seated ghosts scene.members job place before → Rewrites scene.books books job → IsBooks books → ghosts.job_is after ≡ ghosts.job_is before → Fits ghosts after → capacity_at books.live job ≡ ghosts.capacity_is after → MatchOption request (books.standing ≡ None) (Stands books) → IsWorld ghosts (record { books = books; members = set scene.members place after; request = request })
world_changed ghosts scene job place before after books request w s r b same fits row stands =
    world_turned ghosts scene _ job before after w (record {
      found = seated_found ghosts scene.members job place before s;
      same_job = same;
      members_are = seated_set ghosts scene.members job place before after s;
      within = All-set (Fits ghosts) scene.members place after fits w.within;
      books_hold = b;
      total = r.total;
      moved = omega (arith, r.moved, row, seated_row ghosts scene job place before w s);
      row = row;
      others = r.others;
      lives = r.lives;
      stands = stands;
    })

-- what was tied to the changed member is tied to its job
pub row_now : (books : Books) (job named capacity : ℕ) → named ≡ job → IsTied books.live named capacity → capacity_at books.live job ≡ capacity
row_now books job named capacity is t = ap (λ n. capacity_at books.live n) (sym is) ∙ t.same

-- the request that stands agrees with the books
pub asked_stands : {M L : Type 0} (ghosts : Ghosts M L) (scene : Scene M) (request : Asked) → IsWorld ghosts scene → scene.request ≡ Some request → Stands scene.books request
asked_stands ghosts scene request w is = subst (λ (o : Option Asked). MatchOption o (scene.books.standing ≡ None) (Stands scene.books)) is w.stands

-- a job that passes as running is live
pub running_live : {M L : Type 0} (ghosts : Ghosts M L) (members : List M) (job : ℕ) (live : Bool) → option_map_or (λ member. live) (member_of ghosts members job) false ≡ true → live ≡ true
running_live {M} ghosts members job live h = by (member_of ghosts members job) h
  where
    by : (o : Option M) → option_map_or (λ member. live) o false ≡ true → live ≡ true
    by None e = absurd (cc)
    by (Some m) e = e

-- the request passes its test
pub asked_passes : (request : Option Asked) (asked : Asked) (test : Asked → Bool) → request ≡ Some asked → on_request request test ≡ true → test asked ≡ true
asked_passes request asked test is h = sym (ap (λ (o : Option Asked). option_map_or test o false) is) ∙ h

pub on_asked : (request : Option Asked) (asked : Asked) (P : Asked → Type 0) → request ≡ Some asked → P asked → IsSomeAnd request P
on_asked request asked P is p = subst (λ (o : Option Asked). IsSomeAnd o P) (sym is) p
