-- A member that has ended stays ended in every run, and a step leaves it as it was.
use Rattle.std.proofs.Common.{◌≡◌, ℕ, true, false, eqb, Option, Some, IsTrue, IsSomeAnd, None, List, [], ◌∷◌, cond, refl, sym, ◌∙◌, ap, subst}
use Rattle.std.specs.Option.{option_map_or}
use Rattle.vx_arb.specs.declared.members.Member.{Ghosts}
use Rattle.vx_arb.specs.declared.members.Move.{Move}
use Rattle.vx_arb.specs.declared.members.Move.TheVariants.{Moved, Ended, Short}
use Rattle.vx_arb.specs.Books.{Books, Asked}
use Rattle.vx_arb.specs.Members.{is_end}
use Rattle.vx_world.specs.declared.events.Event.{Event}
use Rattle.vx_world.specs.declared.events.Event.TheVariants.{Admit, Batch, Begin, Shrink, Reclaim, Look, Grant, Abort, Drop, Want, Retire}
use Rattle.vx_world.specs.declared.events.Reply.{Reply}
use Rattle.vx_world.specs.declared.events.Reply.TheVariants.{Admitted, Stepped, Begun, NotLacking, Freed, Looked, Granted, Aborted, Dropped, Wanted, Retired}
use Rattle.vx_world.specs.Scenes.{Scene, member_of, with_member}
use Rattle.vx_world.specs.Steps.{Step, Makes, Run, Turns, MakesMove, HasEnded}
use Rattle.vx_world.proofs.Turning.{found_job, found_new, found_others, by_job}

-- the member of a job in a list is there, and has ended
abbrev Over : {M L : Type 0} → Ghosts M L → List M → ℕ → Type 0
Over ghosts members job = IsTrue (option_map_or ghosts.ended_is (member_of ghosts members job) false)

over_found : {M L : Type 0} (ghosts : Ghosts M L) (members : List M) (job : ℕ) (member : M) → member_of ghosts members job ≡ Some member → Over ghosts members job → IsTrue (ghosts.ended_is member)
over_found {M} ghosts members job member found over = subst (λ (o : Option M). IsTrue (option_map_or ghosts.ended_is o false)) found over

-- one member changes, and those that had ended still have
over_turned : {M L : Type 0} (ghosts : Ghosts M L) (old new : List M) (named job : ℕ) (change : M → M → Type 0) → Turns ghosts old named change new → Over ghosts old job → Over ghosts new job
over_turned {M} ghosts old new named job change turns over =
    let is : ghosts.job_is turns.after ≡ named = turns.lasts.same ∙ found_job ghosts old named turns.before turns.found in
    rw turns.members (by_job (λ n. Over ghosts old n → Over ghosts (with_member ghosts old named turns.after) n) named job
    (λ had. rw (found_new ghosts old named turns.before turns.after turns.found is) (turns.lasts.over (over_found ghosts old named turns.before turns.found had)))
    (λ ne had. rw (found_others ghosts old named job turns.after is ne) had)
    over)

over_same : {M L : Type 0} (ghosts : Ghosts M L) (old new : List M) (job : ℕ) → new ≡ old → Over ghosts old job → Over ghosts new job
over_same ghosts old new job same over = rw same over

-- what holds of the request that stands gives a fact
by_asked : (request : Option Asked) (P : Asked → Type 0) (Q : Type 0) → IsSomeAnd request P → ((asked : Asked) → P asked → Q) → Q
by_asked None P Q h f = absurd h
by_asked (Some asked) P Q h f = f asked h

over_made : {M L : Type 0} (ghosts : Ghosts M L) (old new : Scene M) (event : Event) (reply : Reply) (job : ℕ) → Makes ghosts old event reply new → Over ghosts old.members job → Over ghosts new.members job
over_made {M} ghosts old new (Admit named most) Admitted job m over = over_same ghosts old.members new.members job (ap (λ (s : Scene M). s.members) m) over
over_made ghosts old new (Batch named hint) (Stepped made) job m over = over_turned ghosts old.members new.members named job _ m.0 over
over_made {M} ghosts old new (Begin named hint) NotLacking job m over = over_same ghosts old.members new.members job (ap (λ (s : Scene M). s.members) m.1) over
over_made ghosts old new (Begin named hint) Begun job m over = over_same ghosts old.members new.members job m.members over
over_made ghosts old new (Shrink named) (Freed amount) job m over =
    by_asked old.request _ (Over ghosts new.members job) m (λ asked p. over_turned ghosts old.members new.members named job _ p.turns over)
over_made ghosts old new (Reclaim named) (Freed amount) job m over =
    by_asked old.request _ (Over ghosts new.members job) m (λ asked p. over_turned ghosts old.members new.members named job _ p.turns over)
over_made ghosts old new (Look named) Looked job m over =
    by_asked old.request _ (Over ghosts new.members job) m (λ asked p. over_same ghosts old.members new.members job p.members over)
over_made ghosts old new Grant Granted job m over =
    by_asked old.request _ (Over ghosts new.members job) m (λ asked p. over_turned ghosts old.members new.members asked.job job _ p.0 over)
over_made ghosts old new (Abort named) (Aborted note) job m over =
    by_asked old.request _ (Over ghosts new.members job) m (λ asked p. over_turned ghosts old.members new.members named job _ p.0 over)
over_made {M} ghosts old new Drop Dropped job m over = over_same ghosts old.members new.members job (ap (λ (s : Scene M). s.members) m) over
over_made ghosts old new (Want named) Wanted job m over = over_turned ghosts old.members new.members named job _ m.0 over
over_made ghosts old new (Retire named) Retired job m over = over_turned ghosts old.members new.members named job _ m.0 over
over_made ghosts old new event reply job m over = absurd m

-- the member of a job that has ended has ended after every event
pub step_lasts : {M L : Type 0} (ghosts : Ghosts M L) (old new : Scene M) (event : Event) (reply : Reply) (job : ℕ) → Step ghosts old event reply new → HasEnded ghosts old job → HasEnded ghosts new job
step_lasts ghosts old new event reply job step over = over_made ghosts old new event reply job step.makes over

-- and after every run
pub run_lasts : {M L : Type 0} (ghosts : Ghosts M L) (old new : Scene M) (events : List Event) (replies : List Reply) (job : ℕ) → Run ghosts old events replies new → HasEnded ghosts old job → HasEnded ghosts new job
run_lasts {M} ghosts old new [] [] job r over = subst (λ (s : Scene M). HasEnded ghosts s job) (sym r) over
run_lasts ghosts old new [] (reply ∷ replies) job r over = absurd r
run_lasts ghosts old new (event ∷ events) [] job r over = absurd r
run_lasts ghosts old new (event ∷ events) (reply ∷ replies) job r over =
    run_lasts ghosts r.0 new events replies job r.1.2 (step_lasts ghosts old r.0 event reply job r.1.0 over)

-- a member in its own place
with_itself : {M L : Type 0} (ghosts : Ghosts M L) (members : List M) (job : ℕ) (member : M) → member_of ghosts members job ≡ Some member → with_member ghosts members job member ≡ members
with_itself ghosts [] job member found = refl
with_itself {M} ghosts (first ∷ rest) job member found =
    elim (eqb (ghosts.job_is first) job) as (λ b. cond b (Some first) (member_of ghosts rest job) ≡ Some member → cond b (member ∷ rest) (first ∷ with_member ghosts rest job member) ≡ first ∷ rest) [
      | true ↦ λ f. let same : member ≡ first = cc in ap (λ (m : M). m ∷ rest) same
      | false ↦ λ f. ap (λ (l : List M). first ∷ l) (with_itself ghosts rest job member f)
    ] found

same_scene : {M : Type 0} (old new : Scene M) → new.members ≡ old.members → new.books ≡ old.books → new.request ≡ old.request → new ≡ old
same_scene {M} old new members books request =
    ap (λ (l : List M). record { books = new.books; members = l; request = new.request }) members
    ∙ ap (λ (b : Books). record { books = b; members = old.members; request = new.request }) books
    ∙ ap (λ (o : Option Asked). record { books = old.books; members = old.members; request = o }) request

is_ended : (move : Move) → is_end move ≡ true → move ≡ Ended
is_ended Moved e = absurd (cc)
is_ended Ended e = refl
is_ended (Short lack) e = absurd (cc)

-- a step of a member that has ended changes nothing, and answers that it has
pub ended_step : {M L : Type 0} (ghosts : Ghosts M L) (old new : Scene M) (job hint : ℕ) (move : Move) → Step ghosts old (Batch job hint) (Stepped move) new → HasEnded ghosts old job → (new ≡ old) × (move ≡ Ended)
ended_step {M} ghosts old new job hint move step over =
    let turns : Turns ghosts old.members job (MakesMove ghosts hint move) new.members = step.makes.0 in
    let had : IsTrue (ghosts.ended_is turns.before) = over_found ghosts old.members job turns.before turns.found over in
    let stays : turns.after ≡ turns.before = turns.turned.over had in
    let members : new.members ≡ old.members =
    turns.members ∙ ap (λ (m : M). with_member ghosts old.members job m) stays ∙ with_itself ghosts old.members job turns.before turns.found in
    (same_scene old new members step.makes.1 step.makes.2, is_ended move (turns.turned.ended ∙ ap ghosts.ended_is stays ∙ had))
