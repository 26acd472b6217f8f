-- A reclaim, as an event of a world.
use Rattle.std.proofs.Common.{◌≡◌, ℕ, ◌+◌, true, Some, IsTrue, set, sym, ◌∙◌, ap, subst}
use Rattle.vx_arb.specs.declared.members.Member.{Ghosts}
use Rattle.vx_arb.specs.Books.{Books, Asked, IsBooks, Stands, IsReclaimed, moved_of, wanted_of, reclaim_entry, after_reclaim, after_move}
use Rattle.vx_arb.specs.Rows.{is_live, IsTied}
use Rattle.vx_world.specs.declared.events.Event.TheVariants.{Reclaim}
use Rattle.vx_world.specs.declared.events.Reply.TheVariants.{Freed}
use Rattle.vx_world.specs.Scenes.{Scene, IsWorld, Fits}
use Rattle.vx_world.specs.Steps.{Step, Reclaims, Lasts, OnAsked, is_lawful, is_running, on_request, may_reclaim}
use Rattle.vx_world.proofs.Finding.{both}
use Rattle.vx_world.proofs.Changes.{Seated, seated_job, seated_tied, seated_turns, rewrites_taken, world_changed, row_now, running_live, on_asked}

lawful_live : {M L : Type 0} (ghosts : Ghosts M L) (scene : Scene M) (job : ℕ) → is_lawful ghosts scene (Reclaim job) ≡ true → is_live scene.books.live job ≡ true
lawful_live ghosts scene job h = running_live ghosts scene.members job (is_live scene.books.live job) ((both (is_running ghosts scene job) (on_request scene.request (may_reclaim scene.books)) h).0)

pub reclaim_tied : {M L : Type 0} (ghosts : Ghosts M L) (scene now : Scene M) → scene ≡ now → (job place : ℕ) (before : M) → IsWorld ghosts scene → IsTrue (is_lawful ghosts now (Reclaim job)) → Seated ghosts scene.members job place before → IsTied scene.books.live (ghosts.job_is before) (ghosts.capacity_is before)
reclaim_tied {M} ghosts scene now is job place before w lawful s =
    seated_tied ghosts scene job place before w s (lawful_live ghosts scene job (subst (λ (n : Scene M). is_lawful ghosts n (Reclaim job) ≡ true) (sym is) lawful))

pub reclaim_made : {M L : Type 0} (ghosts : Ghosts M L) (scene now : Scene M) → scene ≡ now → (job place : ℕ) (before after : M) (request asked : Asked) (amount moved : ℕ) (books : Books) → IsTrue (is_lawful ghosts now (Reclaim job)) → Seated ghosts scene.members job place before → scene.request ≡ Some request → moved ≡ moved_of scene.books request (ghosts.job_is before) (ghosts.unused_is before + amount) → books ≡ after_reclaim scene.books (ghosts.job_is before) amount moved → asked ≡ after_move request → IsReclaimed ghosts.reclaims ghosts.lowers before (wanted_of scene.books request) amount moved after → Lasts ghosts before after → Step ghosts now (Reclaim job) (Freed amount) (record { books = books; members = set scene.members place after; request = Some asked })
reclaim_made {M} ghosts scene now is job place before after request asked amount moved books lawful s req moved_is books_are asked_is reclaimed lasts =
    let new : Scene M = record { books = books; members = set scene.members place after; request = Some asked } in
    let its : ghosts.job_is before ≡ job = seated_job ghosts scene.members job place before s in
    let reclaims : Reclaims ghosts scene request job amount new = record {
      moved = moved;
      turns = seated_turns ghosts scene.members job place before after _ s (moved_is ∙ ap (λ n. moved_of scene.books request n (ghosts.unused_is before + amount)) its, reclaimed) lasts;
      books = books_are ∙ ap (λ n. after_reclaim scene.books n amount moved) its;
      request_is = ap (λ (r : Asked). Some r) asked_is;
    } in
    record {
      lawful = lawful;
      makes = subst (λ (n : Scene M). OnAsked n.request (λ request. Reclaims ghosts n request job amount new)) is
          (on_asked scene.request request (λ request. Reclaims ghosts scene request job amount new) req reclaims);
    }

pub reclaim_keeps : {M L : Type 0} (ghosts : Ghosts M L) (scene now : Scene M) → scene ≡ now → (job place : ℕ) (before after : M) (asked : Asked) (amount moved : ℕ) (books : Books) → IsWorld ghosts scene → IsTrue (is_lawful ghosts now (Reclaim job)) → Seated ghosts scene.members job place before → books ≡ after_reclaim scene.books (ghosts.job_is before) amount moved → Stands books asked → ghosts.job_is after ≡ ghosts.job_is before → IsTied books.live (ghosts.job_is after) (ghosts.capacity_is after) → Fits ghosts after → IsBooks books → IsWorld ghosts (record { books = books; members = set scene.members place after; request = Some asked })
reclaim_keeps {M} ghosts scene now is job place before after asked amount moved books w lawful s books_are stands same tied fits rule =
    let its : ghosts.job_is before ≡ job = seated_job ghosts scene.members job place before s in
    let live = lawful_live ghosts scene job (subst (λ (n : Scene M). is_lawful ghosts n (Reclaim job) ≡ true) (sym is) lawful) in
    let are : books ≡ after_reclaim scene.books job amount moved = books_are ∙ ap (λ n. after_reclaim scene.books n amount moved) its in
    let rewrites = rewrites_taken scene.books job moved (reclaim_entry job amount moved) w.books_hold (subst IsBooks are rule) live in
    world_changed ghosts scene job place before after books (Some asked) w s (rw are rewrites) rule same fits
    (row_now books job (ghosts.job_is after) (ghosts.capacity_is after) (same ∙ its) tied) stands
