-- A step of a member and an end for want of memory, as events of a world: no capacity changes.
use Rattle.std.proofs.Common.{◌≡◌, ℕ, Bool, true, false, not, Option, IsTrue, List, set, refl, sym, ◌∙◌, ap, subst}
use Rattle.vx_arb.specs.declared.members.Member.{Ghosts}
use Rattle.vx_arb.specs.declared.members.Move.{Move}
use Rattle.std.specs.Option.{option_map_or}
use Rattle.vx_world.specs.declared.events.Event.TheVariants.{Batch, Want}
use Rattle.vx_world.specs.declared.events.Reply.TheVariants.{Stepped, Wanted}
use Rattle.vx_world.specs.Scenes.{Scene, IsWorld, Fits, member_of}
use Rattle.vx_world.specs.Steps.{Step, Turns, Lasts, MakesMove, is_lawful}
use Rattle.vx_world.proofs.Changes.{Seated, seated_found, seated_row, seated_turns, rewrites_same, world_changed}

-- where a member changes with the same job and capacity, a world keeps its rule
pub step_keeps : {M L : Type 0} (ghosts : Ghosts M L) (scene : Scene M) (job place : ℕ) (before after : M) → IsWorld ghosts scene → Seated ghosts scene.members job place before → ghosts.job_is after ≡ ghosts.job_is before → ghosts.capacity_is after ≡ ghosts.capacity_is before → Fits ghosts after → IsWorld ghosts (record { books = scene.books; members = set scene.members place after; request = scene.request })
step_keeps ghosts scene job place before after w s same capacity fits =
    world_changed ghosts scene job place before after scene.books scene.request w s (rewrites_same scene.books scene.books job refl refl refl) w.books_hold same fits
    (seated_row ghosts scene job place before w s ∙ sym capacity) w.stands

pub batch_made : {M L : Type 0} (ghosts : Ghosts M L) (scene now : Scene M) → scene ≡ now → (job hint place : ℕ) (before after : M) (move : Move) → IsTrue (is_lawful ghosts now (Batch job hint)) → Seated ghosts scene.members job place before → MakesMove ghosts hint move before after → ghosts.job_is after ≡ ghosts.job_is before → Step ghosts now (Batch job hint) (Stepped move) (record { books = scene.books; members = set scene.members place after; request = scene.request })
batch_made {M} ghosts scene now is job hint place before after move lawful s moves same = record {
  lawful = lawful;
  makes = subst (λ (n : Scene M). Turns ghosts n.members job (MakesMove ghosts hint move) (set scene.members place after) × (scene.books ≡ n.books) × (scene.request ≡ n.request)) is
      (seated_turns ghosts scene.members job place before after (MakesMove ghosts hint move) s moves (record { same = same; over = λ ended. ap ghosts.ended_is (moves.over ended) ∙ ended }), refl, refl);
}

pub want_made : {M L : Type 0} (ghosts : Ghosts M L) (scene now : Scene M) → scene ≡ now → (job place : ℕ) (before after : M) → IsTrue (is_lawful ghosts now (Want job)) → Seated ghosts scene.members job place before → ghosts.wants before after → Lasts ghosts before after → Step ghosts now (Want job) Wanted (record { books = scene.books; members = set scene.members place after; request = scene.request })
want_made {M} ghosts scene now is job place before after lawful s wanted lasts = record {
  lawful = lawful;
  makes = subst (λ (n : Scene M). Turns ghosts n.members job (λ before after. ghosts.wants before after) (set scene.members place after) × (scene.books ≡ n.books) × (scene.request ≡ n.request)) is
      (seated_turns ghosts scene.members job place before after (λ before after. ghosts.wants before after) s wanted lasts, refl, refl);
}

-- a member that passes a test does so where it stands
pub seated_passes : {M L : Type 0} (ghosts : Ghosts M L) (members : List M) (job place : ℕ) (before : M) (test : M → Bool) → Seated ghosts members job place before → option_map_or test (member_of ghosts members job) false ≡ true → test before ≡ true
seated_passes {M} ghosts members job place before test s h = sym (ap (λ (o : Option M). option_map_or test o false) (seated_found ghosts members job place before s)) ∙ h

pub not_true : (b : Bool) → not b ≡ true → b ≡ false
not_true true e = absurd (cc)
not_true false e = refl

pub want_going : {M L : Type 0} (ghosts : Ghosts M L) (scene now : Scene M) → scene ≡ now → (job place : ℕ) (before : M) → IsTrue (is_lawful ghosts now (Want job)) → Seated ghosts scene.members job place before → ghosts.ended_is before ≡ false
want_going {M} ghosts scene now is job place before lawful s =
    not_true (ghosts.ended_is before) (seated_passes ghosts scene.members job place before (λ member. not (ghosts.ended_is member)) s (subst (λ (n : Scene M). is_lawful ghosts n (Want job) ≡ true) (sym is) lawful))
