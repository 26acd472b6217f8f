-- A shrink, as an event of a world.
use Rattle.std.proofs.Common.{◌≡◌, ◌≢◌, ℕ, true, eqb, ltb, not, Some, IsTrue, set, sym, ◌∙◌, ap, subst, arith}
use Rattle.std.proofs.lemmas.Bool.Decides.{nat_tests}
use Rattle.vx_arb.specs.declared.members.Member.{Ghosts}
use Rattle.vx_arb.specs.Books.{Books, Asked, IsBooks, Stands, share_of, shrink_entry, after_shrink, after_move}
use Rattle.vx_arb.specs.Rows.{is_live, IsTied}
use Rattle.vx_world.specs.declared.events.Event.TheVariants.{Shrink}
use Rattle.vx_world.specs.declared.events.Reply.TheVariants.{Freed}
use Rattle.vx_world.specs.Scenes.{Scene, IsWorld, Fits}
use Rattle.vx_world.specs.Steps.{Step, Shrinks, Lasts, OnAsked, is_lawful, is_running, on_request, may_shrink}
use Rattle.vx_world.proofs.Finding.{both}
use Rattle.vx_world.proofs.Changes.{Seated, seated_job, seated_tied, seated_turns, rewrites_taken, world_changed, row_now, running_live, asked_passes, on_asked}

lawful_live : {M L : Type 0} (ghosts : Ghosts M L) (scene : Scene M) (job : ℕ) → is_lawful ghosts scene (Shrink job) ≡ true → is_live scene.books.live job ≡ true
lawful_live ghosts scene job h = running_live ghosts scene.members job (is_live scene.books.live job) ((both (is_running ghosts scene job) (on_request scene.request (may_shrink job)) h).0)

pub shrink_tied : {M L : Type 0} (ghosts : Ghosts M L) (scene now : Scene M) → scene ≡ now → (job place : ℕ) (before : M) → IsWorld ghosts scene → IsTrue (is_lawful ghosts now (Shrink job)) → Seated ghosts scene.members job place before → IsTied scene.books.live (ghosts.job_is before) (ghosts.capacity_is before)
shrink_tied {M} ghosts scene now is job place before w lawful s =
    seated_tied ghosts scene job place before w s (lawful_live ghosts scene job (subst (λ (n : Scene M). is_lawful ghosts n (Shrink job) ≡ true) (sym is) lawful))

pub shrink_other : {M L : Type 0} (ghosts : Ghosts M L) (scene now : Scene M) → scene ≡ now → (job place : ℕ) (before : M) (request : Asked) → IsTrue (is_lawful ghosts now (Shrink job)) → Seated ghosts scene.members job place before → scene.request ≡ Some request → ghosts.job_is before ≢ request.job
shrink_other {M} ghosts scene now is job place before request lawful s asked =
    let h : is_lawful ghosts scene (Shrink job) ≡ true = subst (λ (n : Scene M). is_lawful ghosts n (Shrink job) ≡ true) (sym is) lawful in
    let may : may_shrink job request ≡ true = asked_passes scene.request request (may_shrink job) asked ((both (is_running ghosts scene job) (on_request scene.request (may_shrink job)) h).1) in
    let other : not (eqb job request.job) ≡ true = (both (ltb 0 request.left) (not (eqb job request.job)) may).1 in
    let its : ghosts.job_is before ≡ job = seated_job ghosts scene.members job place before s in
    λ same. let equal : eqb job request.job ≡ true = grind (arith, nat_tests) in absurd (cc)

pub shrink_made : {M L : Type 0} (ghosts : Ghosts M L) (scene now : Scene M) → scene ≡ now → (job place : ℕ) (before after : M) (request asked : Asked) (amount : ℕ) (books : Books) → IsTrue (is_lawful ghosts now (Shrink job)) → Seated ghosts scene.members job place before → scene.request ≡ Some request → amount ≡ share_of scene.books request (ghosts.unused_is before) → books ≡ after_shrink scene.books (ghosts.job_is before) amount → asked ≡ after_move request → ghosts.lowers before amount after → Lasts ghosts before after → Step ghosts now (Shrink job) (Freed amount) (record { books = books; members = set scene.members place after; request = Some asked })
shrink_made {M} ghosts scene now is job place before after request asked amount books lawful s req moved books_are asked_is lowered lasts =
    let new : Scene M = record { books = books; members = set scene.members place after; request = Some asked } in
    let its : ghosts.job_is before ≡ job = seated_job ghosts scene.members job place before s in
    let shrinks : Shrinks ghosts scene request job amount new = record {
      turns = seated_turns ghosts scene.members job place before after _ s (moved, lowered) lasts;
      books = books_are ∙ ap (λ n. after_shrink scene.books n amount) its;
      request_is = ap (λ (r : Asked). Some r) asked_is;
    } in
    record {
      lawful = lawful;
      makes = subst (λ (n : Scene M). OnAsked n.request (λ request. Shrinks ghosts n request job amount new)) is
          (on_asked scene.request request (λ request. Shrinks ghosts scene request job amount new) req shrinks);
    }

pub shrink_keeps : {M L : Type 0} (ghosts : Ghosts M L) (scene now : Scene M) → scene ≡ now → (job place : ℕ) (before after : M) (asked : Asked) (amount : ℕ) (books : Books) → IsWorld ghosts scene → IsTrue (is_lawful ghosts now (Shrink job)) → Seated ghosts scene.members job place before → books ≡ after_shrink scene.books (ghosts.job_is before) amount → Stands books asked → ghosts.job_is after ≡ ghosts.job_is before → IsTied books.live (ghosts.job_is after) (ghosts.capacity_is after) → Fits ghosts after → IsBooks books → IsWorld ghosts (record { books = books; members = set scene.members place after; request = Some asked })
shrink_keeps {M} ghosts scene now is job place before after asked amount books w lawful s books_are stands same tied fits rule =
    let its : ghosts.job_is before ≡ job = seated_job ghosts scene.members job place before s in
    let live = lawful_live ghosts scene job (subst (λ (n : Scene M). is_lawful ghosts n (Shrink job) ≡ true) (sym is) lawful) in
    let are : books ≡ after_shrink scene.books job amount = books_are ∙ ap (λ n. after_shrink scene.books n amount) its in
    let rewrites = rewrites_taken scene.books job amount (shrink_entry job amount) w.books_hold (subst IsBooks are rule) live in
    world_changed ghosts scene job place before after books (Some asked) w s (rw are rewrites) rule same fits
    (row_now books job (ghosts.job_is after) (ghosts.capacity_is after) (same ∙ its) tied) stands
