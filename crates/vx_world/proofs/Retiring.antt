-- A retirement, as an event of a world.
use Rattle.std.proofs.Common.{◌≡◌, ℕ, ◌-◌, Bool, true, eqb, not, ◌&&◌, Option, Some, None, IsTrue, MatchOption, set, refl, sym, ◌∙◌, ap, subst, arith}
use Rattle.std.proofs.lemmas.Bool.Decides.{nat_tests}
use Rattle.vx_arb.specs.declared.members.Member.{Ghosts}
use Rattle.vx_arb.specs.Books.{Books, Asked, IsBooks, Stands, after_retire}
use Rattle.vx_arb.specs.Rows.{is_live, capacity_at, without}
use Rattle.vx_arb.proofs.RowLemmas.{gone, absent_capacity, capacity_kept, live_kept}
use Rattle.vx_world.specs.declared.events.Event.TheVariants.{Retire}
use Rattle.vx_world.specs.declared.events.Reply.TheVariants.{Retired}
use Rattle.vx_world.specs.Scenes.{Scene, IsWorld, Fits}
use Rattle.vx_world.specs.Steps.{Step, Turns, Lasts, is_lawful, on_member, on_request}
use Rattle.vx_world.proofs.Finding.{both}
use Rattle.vx_world.proofs.Stepping.{seated_passes}
use Rattle.vx_world.proofs.Changes.{Seated, seated_turns, Rewrites, world_changed}

retire_may : {M L : Type 0} (ghosts : Ghosts M L) (scene now : Scene M) → scene ≡ now → (job place : ℕ) (before : M) → IsTrue (is_lawful ghosts now (Retire job)) → Seated ghosts scene.members job place before → (is_live scene.books.live job ≡ true) × (eqb (ghosts.reserved_is before) 0 ≡ true)
retire_may {M} ghosts scene now is job place before lawful s =
    let test : M → Bool = λ member. is_live scene.books.live job && eqb (ghosts.reserved_is member) 0 in
    let may = both (on_member ghosts scene job test) (not (on_request scene.request (λ (request : Asked). eqb request.job job))) (subst (λ (n : Scene M). is_lawful ghosts n (Retire job) ≡ true) (sym is) lawful) in
    both (is_live scene.books.live job) (eqb (ghosts.reserved_is before) 0) (seated_passes ghosts scene.members job place before test s may.0)

pub retire_bare : {M L : Type 0} (ghosts : Ghosts M L) (scene now : Scene M) → scene ≡ now → (job place : ℕ) (before : M) → IsTrue (is_lawful ghosts now (Retire job)) → Seated ghosts scene.members job place before → ghosts.reserved_is before ≡ 0
retire_bare ghosts scene now is job place before lawful s =
    let none : eqb (ghosts.reserved_is before) 0 ≡ true = (retire_may ghosts scene now is job place before lawful s).1 in grind (arith, nat_tests)

pub retire_made : {M L : Type 0} (ghosts : Ghosts M L) (scene now : Scene M) → scene ≡ now → (job place bytes : ℕ) (before after : M) (books : Books) → IsTrue (is_lawful ghosts now (Retire job)) → Seated ghosts scene.members job place before → bytes ≡ ghosts.capacity_is before → ghosts.lowers before bytes after → Lasts ghosts before after → books ≡ after_retire scene.books job → Step ghosts now (Retire job) Retired (record { books = books; members = set scene.members place after; request = scene.request })
retire_made {M} ghosts scene now is job place bytes before after books lawful s whole lowered lasts are = record {
  lawful = lawful;
  makes = subst (λ (n : Scene M). Turns ghosts n.members job (λ before after. ghosts.lowers before (ghosts.capacity_is before) after) (set scene.members place after) × (books ≡ after_retire n.books job) × (scene.request ≡ n.request)) is
      (seated_turns ghosts scene.members job place before after (λ before after. ghosts.lowers before (ghosts.capacity_is before) after) s (subst (λ n. ghosts.lowers before n after) whole lowered) lasts, are, refl);
}

rewrites_retired : (old : Books) (job : ℕ) → IsBooks old → is_live old.live job ≡ true → Rewrites old (after_retire old job) job
rewrites_retired old job o live =
    let none : capacity_at (without old.live job) job ≡ 0 = absent_capacity (without old.live job) job (gone old.live job live (o.single job)) in
    record {
      total = refl;
      moved = omega (arith, none);
      others = λ other ne. capacity_kept old.live job other ne;
      lives = λ other ne. live_kept old.live job other ne;
    }

still_stands : (request : Option Asked) (old new : Books) → new.standing ≡ old.standing → ((r : Asked) → Stands old r → Stands new r) → MatchOption request (old.standing ≡ None) (Stands old) → MatchOption request (new.standing ≡ None) (Stands new)
still_stands None old new same keeps h = same ∙ h
still_stands (Some r) old new same keeps h = keeps r h

pub retire_keeps : {M L : Type 0} (ghosts : Ghosts M L) (scene now : Scene M) → scene ≡ now → (job place bytes : ℕ) (before after : M) (books : Books) → IsWorld ghosts scene → IsTrue (is_lawful ghosts now (Retire job)) → Seated ghosts scene.members job place before → bytes ≡ ghosts.capacity_is before → ghosts.job_is after ≡ ghosts.job_is before → ghosts.capacity_is after ≡ ghosts.capacity_is before - bytes → Fits ghosts after → books ≡ after_retire scene.books job → ((r : Asked) → Stands scene.books r → Stands books r) → IsBooks books → IsWorld ghosts (record { books = books; members = set scene.members place after; request = scene.request })
retire_keeps {M} ghosts scene now is job place bytes before after books w lawful s whole same less fits are stands rule =
    let live : is_live scene.books.live job ≡ true = (retire_may ghosts scene now is job place before lawful s).0 in
    let none : capacity_at (without scene.books.live job) job ≡ 0 = absent_capacity (without scene.books.live job) job (gone scene.books.live job live (w.books_hold.single job)) in
    let row : capacity_at books.live job ≡ 0 = ap (λ (b : Books). capacity_at b.live job) are ∙ none in
    world_changed ghosts scene job place before after books scene.request w s (rw are (rewrites_retired scene.books job w.books_hold live)) rule same fits
    (omega (arith, row, less, whole))
    (still_stands scene.request scene.books books (ap (λ (b : Books). b.standing) are) stands w.stands)
