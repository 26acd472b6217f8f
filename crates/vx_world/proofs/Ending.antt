-- How a request ends: a grant, an abort, or without either, as events of a world.
use Rattle.std.proofs.Common.{◌≡◌, ℕ, ◌+◌, ◌-◌, Bool, true, false, eqb, ltb, not, ◌&&◌, cond, Some, None, Result, Ok, Err, OnOk, IsTrue, set, refl, sym, ◌∙◌, ap, subst, arith}
use Rattle.std.specs.List.{list_all}
use Rattle.std.specs.Result.{is_ok}
use Rattle.std.proofs.lemmas.Bool.Decides.{nat_tests}
use Rattle.vx_arb.specs.declared.members.Member.{Ghosts}
use Rattle.vx_arb.specs.declared.entries.AbortNote.{AbortNote}
use Rattle.vx_arb.specs.declared.rows.Live.{Live}
use Rattle.vx_arb.specs.Books.{Books, Asked, IsBooks, Stands, is_met, is_unmet, is_unmet_own, is_unmet_total, note_for, after_grant, after_abort}
use Rattle.vx_arb.specs.Rows.{is_live, capacity_at, max_in, is_largest, IsTied}
use Rattle.vx_arb.specs.Unmet.{saw_nothing, saw_no_unused}
use Rattle.vx_arb.proofs.Aborts.{stands_well}
use Rattle.vx_world.specs.declared.events.Event.TheVariants.{Grant, Abort}
use Rattle.vx_world.specs.declared.events.Reply.TheVariants.{Granted, Aborted}
use Rattle.vx_world.specs.Scenes.{Scene, IsWorld, Fits}
use Rattle.vx_world.specs.Steps.{Step, Turns, Lasts, OnAsked, is_lawful, is_running, on_member, on_request}
use Rattle.vx_world.proofs.Finding.{both}
use Rattle.vx_world.proofs.Stepping.{seated_passes, not_true}
use Rattle.vx_world.proofs.Changes.{Seated, seated_job, seated_tied, seated_turns, rewrites_set, world_changed, row_now, asked_stands, running_live, asked_passes, on_asked}

-- a fact of an Ok, where one came
pub made_ok : {T E : Type 0} (r : Result T E) (P : Type 0) → is_ok r ≡ true → OnOk r P → P
made_ok (Ok x) P e p = p
made_ok (Err x) P e p = absurd (cc)

grant_may : {M L : Type 0} (ghosts : Ghosts M L) (scene now : Scene M) → scene ≡ now → (request : Asked) → IsTrue (is_lawful ghosts now Grant) → scene.request ≡ Some request → (is_met scene.books request ≡ true) × (is_live scene.books.live request.job ≡ true)
grant_may {M} ghosts scene now is request lawful asked =
    let test : Asked → Bool = λ (request : Asked). is_met scene.books request && is_running ghosts scene request.job in
    let may = both (is_met scene.books request) (is_running ghosts scene request.job) (asked_passes scene.request request test asked (subst (λ (n : Scene M). is_lawful ghosts n Grant ≡ true) (sym is) lawful)) in
    (may.0, running_live ghosts scene.members request.job (is_live scene.books.live request.job) may.1)

pub grant_tied : {M L : Type 0} (ghosts : Ghosts M L) (scene now : Scene M) → scene ≡ now → (request : Asked) (place : ℕ) (before : M) → IsWorld ghosts scene → IsTrue (is_lawful ghosts now Grant) → scene.request ≡ Some request → Seated ghosts scene.members request.job place before → IsTied scene.books.live (ghosts.job_is before) (ghosts.capacity_is before)
grant_tied ghosts scene now is request place before w lawful asked s =
    seated_tied ghosts scene request.job place before w s ((grant_may ghosts scene now is request lawful asked).1)

pub grant_made : {M L : Type 0} (ghosts : Ghosts M L) (scene now : Scene M) → scene ≡ now → (request : Asked) (place : ℕ) (before after : M) (books : Books) → IsTrue (is_lawful ghosts now Grant) → Seated ghosts scene.members request.job place before → scene.request ≡ Some request → books ≡ after_grant scene.books request → ghosts.raises before request.need after → Lasts ghosts before after → Step ghosts now Grant Granted (record { books = books; members = set scene.members place after; request = None })
grant_made {M} ghosts scene now is request place before after books lawful s req books_are raised lasts =
    let new : Scene M = record { books = books; members = set scene.members place after; request = None } in
    record {
      lawful = lawful;
      makes = subst (λ (n : Scene M). OnAsked n.request (λ request. Turns ghosts n.members request.job (λ before after. ghosts.raises before request.need after) new.members × (new.books ≡ after_grant n.books request) × (new.request ≡ None))) is
          (on_asked scene.request request (λ request. Turns ghosts scene.members request.job (λ before after. ghosts.raises before request.need after) new.members × (new.books ≡ after_grant scene.books request) × (new.request ≡ None)) req
          (seated_turns ghosts scene.members request.job place before after (λ before after. ghosts.raises before request.need after) s raised lasts, books_are, refl));
    }

pub grant_keeps : {M L : Type 0} (ghosts : Ghosts M L) (scene now : Scene M) → scene ≡ now → (request : Asked) (place : ℕ) (before after : M) (books : Books) → IsWorld ghosts scene → IsTrue (is_lawful ghosts now Grant) → scene.request ≡ Some request → Seated ghosts scene.members request.job place before → books ≡ after_grant scene.books request → ghosts.job_is after ≡ ghosts.job_is before → IsTied books.live (ghosts.job_is after) (ghosts.capacity_is after) → Fits ghosts after → IsBooks books → IsWorld ghosts (record { books = books; members = set scene.members place after; request = None })
grant_keeps {M} ghosts scene now is request place before after books w lawful asked s are same tied fits rule =
    let its : ghosts.job_is before ≡ request.job = seated_job ghosts scene.members request.job place before s in
    let live = (grant_may ghosts scene now is request lawful asked).1 in
    let rewrites = rewrites_set scene.books (after_grant scene.books request) request.job (capacity_at scene.books.live request.job + request.need) w.books_hold (subst IsBooks are rule) live refl refl in
    world_changed ghosts scene request.job place before after books None w s (rw are rewrites) rule same fits
    (row_now books request.job (ghosts.job_is after) (ghosts.capacity_is after) (same ∙ its) tied) (ap (λ (b : Books). b.standing) are)

-- a job that a request may abort is live
unmet_live : (books : Books) (request : Asked) (job : ℕ) → IsBooks books → Stands books request → is_unmet books request job ≡ true → is_live books.live job ≡ true
unmet_live books request job b s h = by (ltb (max_in books.live request.job) request.would) h
  where
    own : is_unmet_own request job ≡ true → is_live books.live job ≡ true
    own e =
        let parts = both (eqb job request.job) (saw_nothing request.looks job) e in
        let same : job ≡ request.job = grind (arith, nat_tests, parts.0) in
        ap (λ n. is_live books.live n) same ∙ (stands_well books request b s).there

    total : is_unmet_total books request job ≡ true → is_live books.live job ≡ true
    total e =
        let emptied : Bool = list_all (λ (row : Live). saw_nothing request.looks row.job) books.live in
        let first : Bool = (ltb books.free request.need && emptied) && saw_no_unused request.looks request.job in
        let parts = both (first && is_live books.live job) (is_largest books.live job) e in
        (both first (is_live books.live job) parts.0).1

    by : (past : Bool) → cond past (is_unmet_own request job) (is_unmet_total books request job) ≡ true → is_live books.live job ≡ true
    by true e = own e
    by false e = total e

abort_may : {M L : Type 0} (ghosts : Ghosts M L) (scene now : Scene M) → scene ≡ now → (job : ℕ) (request : Asked) → IsTrue (is_lawful ghosts now (Abort job)) → scene.request ≡ Some request → (on_member ghosts scene job (λ member. not (ghosts.ended_is member)) ≡ true) × (is_unmet scene.books request job ≡ true)
abort_may {M} ghosts scene now is job request lawful asked =
    let test : Asked → Bool = λ (request : Asked). is_unmet scene.books request job in
    let may = both (on_member ghosts scene job (λ member. not (ghosts.ended_is member))) (on_request scene.request test) (subst (λ (n : Scene M). is_lawful ghosts n (Abort job) ≡ true) (sym is) lawful) in
    (may.0, asked_passes scene.request request test asked may.1)

abort_live : {M L : Type 0} (ghosts : Ghosts M L) (scene now : Scene M) → scene ≡ now → (job : ℕ) (request : Asked) → IsWorld ghosts scene → IsTrue (is_lawful ghosts now (Abort job)) → scene.request ≡ Some request → is_live scene.books.live job ≡ true
abort_live ghosts scene now is job request w lawful asked =
    unmet_live scene.books request job w.books_hold (asked_stands ghosts scene request w asked) ((abort_may ghosts scene now is job request lawful asked).1)

pub abort_tied : {M L : Type 0} (ghosts : Ghosts M L) (scene now : Scene M) → scene ≡ now → (job place : ℕ) (before : M) (request : Asked) → IsWorld ghosts scene → IsTrue (is_lawful ghosts now (Abort job)) → scene.request ≡ Some request → Seated ghosts scene.members job place before → IsTied scene.books.live (ghosts.job_is before) (ghosts.capacity_is before)
abort_tied ghosts scene now is job place before request w lawful asked s =
    seated_tied ghosts scene job place before w s (abort_live ghosts scene now is job request w lawful asked)

pub abort_going : {M L : Type 0} (ghosts : Ghosts M L) (scene now : Scene M) → scene ≡ now → (job place : ℕ) (before : M) (request : Asked) → IsTrue (is_lawful ghosts now (Abort job)) → scene.request ≡ Some request → Seated ghosts scene.members job place before → ghosts.ended_is before ≡ false
abort_going ghosts scene now is job place before request lawful asked s =
    not_true (ghosts.ended_is before) (seated_passes ghosts scene.members job place before (λ member. not (ghosts.ended_is member)) s ((abort_may ghosts scene now is job request lawful asked).0))

pub abort_unmet : {M L : Type 0} (ghosts : Ghosts M L) (scene now : Scene M) → scene ≡ now → (job place : ℕ) (before : M) (request : Asked) → IsTrue (is_lawful ghosts now (Abort job)) → scene.request ≡ Some request → Seated ghosts scene.members job place before → IsTrue (is_unmet scene.books request (ghosts.job_is before))
abort_unmet ghosts scene now is job place before request lawful asked s =
    ap (λ n. is_unmet scene.books request n) (seated_job ghosts scene.members job place before s) ∙ (abort_may ghosts scene now is job request lawful asked).1

pub abort_made : {M L : Type 0} (ghosts : Ghosts M L) (scene now : Scene M) → scene ≡ now → (job place : ℕ) (before after : M) (request : Asked) (note : AbortNote) (books : Books) → IsTrue (is_lawful ghosts now (Abort job)) → Seated ghosts scene.members job place before → scene.request ≡ Some request → note ≡ note_for scene.books request (ghosts.job_is before) → books ≡ after_abort scene.books request (ghosts.job_is before) → ghosts.aborts before note after → Lasts ghosts before after → Step ghosts now (Abort job) (Aborted note) (record { books = books; members = set scene.members place after; request = None })
abort_made {M} ghosts scene now is job place before after request note books lawful s req note_is books_are aborted lasts =
    let new : Scene M = record { books = books; members = set scene.members place after; request = None } in
    let its : ghosts.job_is before ≡ job = seated_job ghosts scene.members job place before s in
    record {
      lawful = lawful;
      makes = subst (λ (n : Scene M). OnAsked n.request (λ request. Turns ghosts n.members job (λ before after. ghosts.aborts before note after) new.members × (note ≡ note_for n.books request job) × (new.books ≡ after_abort n.books request job) × (new.request ≡ None))) is
          (on_asked scene.request request (λ request. Turns ghosts scene.members job (λ before after. ghosts.aborts before note after) new.members × (note ≡ note_for scene.books request job) × (new.books ≡ after_abort scene.books request job) × (new.request ≡ None)) req (
            seated_turns ghosts scene.members job place before after (λ before after. ghosts.aborts before note after) s aborted lasts,
            note_is ∙ ap (λ n. note_for scene.books request n) its,
            books_are ∙ ap (λ n. after_abort scene.books request n) its,
            refl,
          ));
    }

pub abort_keeps : {M L : Type 0} (ghosts : Ghosts M L) (scene now : Scene M) → scene ≡ now → (job place : ℕ) (before after : M) (request : Asked) (books : Books) → IsWorld ghosts scene → IsTrue (is_lawful ghosts now (Abort job)) → scene.request ≡ Some request → Seated ghosts scene.members job place before → books ≡ after_abort scene.books request (ghosts.job_is before) → ghosts.job_is after ≡ ghosts.job_is before → IsTied books.live (ghosts.job_is after) (ghosts.capacity_is after) → Fits ghosts after → IsBooks books → IsWorld ghosts (record { books = books; members = set scene.members place after; request = None })
abort_keeps {M} ghosts scene now is job place before after request books w lawful asked s books_are same tied fits rule =
    let its : ghosts.job_is before ≡ job = seated_job ghosts scene.members job place before s in
    let live = abort_live ghosts scene now is job request w lawful asked in
    let are : books ≡ after_abort scene.books request job = books_are ∙ ap (λ n. after_abort scene.books request n) its in
    let rewrites = rewrites_set scene.books (after_abort scene.books request job) job (capacity_at scene.books.live job - capacity_at scene.books.live job) w.books_hold (subst IsBooks are rule) live refl refl in
    world_changed ghosts scene job place before after books None w s (rw are rewrites) rule same fits
    (row_now books job (ghosts.job_is after) (ghosts.capacity_is after) (same ∙ its) tied) (ap (λ (b : Books). b.standing) are)
