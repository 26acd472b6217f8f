-- A begin and a look, as events of a world: no member changes.
use Rattle.std.proofs.Common.{◌≡◌, ℕ, true, is_none, Option, Some, None, option_map, IsTrue, IsSomeAnd, refl, sym, ◌∙◌, ap, subst}
use Rattle.vx_arb.specs.declared.members.Member.{Ghosts}
use Rattle.vx_arb.specs.declared.members.Lack.{Lack}
use Rattle.vx_arb.specs.Books.{Books, Asked, request_for, after_begin, after_look}
use Rattle.vx_arb.specs.Rows.{is_live, IsTied}
use Rattle.vx_world.specs.declared.events.Event.TheVariants.{Begin, Look}
use Rattle.vx_world.specs.declared.events.Reply.TheVariants.{NotLacking, Begun, Looked}
use Rattle.vx_world.specs.Scenes.{Scene, IsWorld}
use Rattle.vx_world.specs.Steps.{Step, Begins, Lacks, Sees, OnAsked, is_lawful, is_running, on_request}
use Rattle.vx_world.proofs.Finding.{both}
use Rattle.vx_world.proofs.Changes.{Seated, seated_found, seated_job, seated_tied, running_live, on_asked}

pub look_live : {M L : Type 0} (ghosts : Ghosts M L) (scene now : Scene M) → scene ≡ now → (job place : ℕ) (member : M) → IsTrue (is_lawful ghosts now (Look job)) → Seated ghosts scene.members job place member → IsTrue (is_live scene.books.live (ghosts.job_is member))
look_live {M} ghosts scene now is job place member lawful s =
    let h : is_lawful ghosts scene (Look job) ≡ true = subst (λ (n : Scene M). is_lawful ghosts n (Look job) ≡ true) (sym is) lawful in
    ap (λ n. is_live scene.books.live n) (seated_job ghosts scene.members job place member s)
    ∙ running_live ghosts scene.members job (is_live scene.books.live job) ((both (is_running ghosts scene job) (on_request scene.request (λ request. true)) h).0)

pub look_made : {M L : Type 0} (ghosts : Ghosts M L) (scene now : Scene M) → scene ≡ now → (job place : ℕ) (member : M) (request asked : Asked) (books : Books) → IsTrue (is_lawful ghosts now (Look job)) → Seated ghosts scene.members job place member → scene.request ≡ Some request → books ≡ scene.books → asked ≡ after_look request (record { job = ghosts.job_is member; unused = ghosts.unused_is member; reclaimable = ghosts.reclaimable_is member }) → Step ghosts now (Look job) Looked (record { books = books; members = scene.members; request = Some asked })
look_made {M} ghosts scene now is job place member request asked books lawful s req same asked_is =
    let new : Scene M = record { books = books; members = scene.members; request = Some asked } in
    let its : ghosts.job_is member ≡ job = seated_job ghosts scene.members job place member s in
    let sees : Sees ghosts scene request job new = record {
      member = member;
      found = seated_found ghosts scene.members job place member s;
      request_is = ap (λ (r : Asked). Some r) (asked_is ∙ ap (λ n. after_look request (record { job = n; unused = ghosts.unused_is member; reclaimable = ghosts.reclaimable_is member })) its);
      members = refl;
      books = same;
    } in
    record {
      lawful = lawful;
      makes = subst (λ (n : Scene M). OnAsked n.request (λ request. Sees ghosts n request job new)) is
          (on_asked scene.request request (λ request. Sees ghosts scene request job new) req sees);
    }

pub begin_tied : {M L : Type 0} (ghosts : Ghosts M L) (scene now : Scene M) → scene ≡ now → (job hint place : ℕ) (member : M) → IsWorld ghosts scene → IsTrue (is_lawful ghosts now (Begin job hint)) → Seated ghosts scene.members job place member → IsTied scene.books.live (ghosts.job_is member) (ghosts.capacity_is member)
begin_tied {M} ghosts scene now is job hint place member w lawful s =
    let h : is_lawful ghosts scene (Begin job hint) ≡ true = subst (λ (n : Scene M). is_lawful ghosts n (Begin job hint) ≡ true) (sym is) lawful in
    seated_tied ghosts scene job place member w s (running_live ghosts scene.members job (is_live scene.books.live job) ((both (is_running ghosts scene job) (is_none scene.request) h).0))

lack_none : {A B : Type 0} (f : A → B) (o : Option A) → None ≡ option_map f o → o ≡ None
lack_none f None e = refl
lack_none f (Some l) e = absurd (cc)

lack_some : (f : Lack → Asked) (o : Option Lack) (r : Asked) → Some r ≡ option_map f o → (l : Lack) × ((o ≡ Some l) × (Some r ≡ Some (f l)))
lack_some f None r e = absurd (cc)
lack_some f (Some l) r e = (l, (refl, e))

lacks_is : {M L : Type 0} (ghosts : Ghosts M L) (scene : Scene M) (job hint place : ℕ) (member : M) (lack : Option Lack) → Seated ghosts scene.members job place member → ghosts.lack_is member hint ≡ lack → Lacks ghosts scene job hint lack
lacks_is {M} ghosts scene job hint place member lack s e =
    subst (λ (o : Option M). IsSomeAnd o (λ member. ghosts.lack_is member hint ≡ lack)) (sym (seated_found ghosts scene.members job place member s)) e

-- a member that lacks nothing
pub not_lacking_same : {M L : Type 0} (ghosts : Ghosts M L) (scene : Scene M) (hint : ℕ) (member : M) (books : Books) → None ≡ option_map (request_for scene.books (ghosts.job_is member)) (ghosts.lack_is member hint) → books ≡ after_begin scene.books (ghosts.job_is member) (ghosts.lack_is member hint) → books ≡ scene.books
not_lacking_same ghosts scene hint member books none are = are ∙ ap (λ (o : Option Lack). after_begin scene.books (ghosts.job_is member) o) (lack_none (request_for scene.books (ghosts.job_is member)) (ghosts.lack_is member hint) none)

pub not_lacking_made : {M L : Type 0} (ghosts : Ghosts M L) (scene now : Scene M) → scene ≡ now → (job hint place : ℕ) (member : M) (books : Books) → IsTrue (is_lawful ghosts now (Begin job hint)) → Seated ghosts scene.members job place member → None ≡ option_map (request_for scene.books (ghosts.job_is member)) (ghosts.lack_is member hint) → books ≡ after_begin scene.books (ghosts.job_is member) (ghosts.lack_is member hint) → Step ghosts now (Begin job hint) NotLacking (record { books = books; members = scene.members; request = scene.request })
not_lacking_made {M} ghosts scene now is job hint place member books lawful s none are = record {
  lawful = lawful;
  makes = (
    subst (λ (n : Scene M). Lacks ghosts n job hint None) is (lacks_is ghosts scene job hint place member None s (lack_none (request_for scene.books (ghosts.job_is member)) (ghosts.lack_is member hint) none)),
    ap (λ (b : Books). record scene { books = b }) (not_lacking_same ghosts scene hint member books none are) ∙ is,
  );
}

pub begun_made : {M L : Type 0} (ghosts : Ghosts M L) (scene now : Scene M) → scene ≡ now → (job hint place : ℕ) (member : M) (asked : Asked) (books : Books) → IsTrue (is_lawful ghosts now (Begin job hint)) → Seated ghosts scene.members job place member → Some asked ≡ option_map (request_for scene.books (ghosts.job_is member)) (ghosts.lack_is member hint) → books ≡ after_begin scene.books (ghosts.job_is member) (ghosts.lack_is member hint) → Step ghosts now (Begin job hint) Begun (record { books = books; members = scene.members; request = Some asked })
begun_made {M} ghosts scene now is job hint place member asked books lawful s some are =
    let new : Scene M = record { books = books; members = scene.members; request = Some asked } in
    let its : ghosts.job_is member ≡ job = seated_job ghosts scene.members job place member s in
    let parts = lack_some (request_for scene.books (ghosts.job_is member)) (ghosts.lack_is member hint) asked some in
    let begins : Begins ghosts scene job hint new = record {
      lack = parts.0;
      lacks = lacks_is ghosts scene job hint place member (Some parts.0) s parts.1.0;
      books = are ∙ ap (λ (o : Option Lack). after_begin scene.books (ghosts.job_is member) o) parts.1.0 ∙ ap (λ n. after_begin scene.books n (Some parts.0)) its;
      request = parts.1.1 ∙ ap (λ n. Some (request_for scene.books n parts.0)) its;
      members = refl;
    } in
    record { lawful = lawful; makes = subst (λ (n : Scene M). Begins ghosts n job hint new) is begins }
