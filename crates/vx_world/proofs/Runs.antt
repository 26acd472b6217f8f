-- A run goes on by one step.
use Rattle.std.proofs.Common.{◌≡◌, ℕ, ◌+◌, ◌<◌, ◌≤◌, List, [], ◌∷◌, ◌++◌, length, take, get_or, append_assoc, append-nil, refl, sym, ◌∙◌, ap, subst, arith}
use Rattle.std.proofs.lemmas.List.{take_more, length-append}
use Rattle.vx_arb.specs.declared.members.Member.{Ghosts}
use Rattle.vx_world.specs.declared.events.Event.{Event}
use Rattle.vx_world.specs.declared.events.Reply.{Reply}
use Rattle.vx_world.specs.Scenes.{Scene, IsWorld}
use Rattle.vx_world.specs.Looks.{looks_of}
use Rattle.vx_world.specs.Steps.{Step, Run, Ran}
use Rattle.vx_world.proofs.Looking.{held_now, run_watched}

run_more : {M L : Type 0} (ghosts : Ghosts M L) (old mid new : Scene M) (events : List Event) (replies : List Reply) (event : Event) (reply : Reply) → Run ghosts old events replies mid → Step ghosts mid event reply new → IsWorld ghosts new → Run ghosts old (events ++ event ∷ []) (replies ++ reply ∷ []) new
run_more {M} ghosts old mid new [] [] event reply r s w = (new, (subst (λ (o : Scene M). Step ghosts o event reply new) r s, w, refl))
run_more ghosts old mid new [] (first ∷ replies) event reply r s w = absurd r
run_more ghosts old mid new (first ∷ events) [] event reply r s w = absurd r
run_more ghosts old mid new (first ∷ events) (answer ∷ replies) event reply r s w =
    (r.0, (r.1.0, r.1.1, run_more ghosts r.0 mid new events replies event reply r.1.2 s w))

-- the run of the first events, of which each has its reply
pub record Goes {M L : Type 0} (ghosts : Ghosts M L) (old : Scene M) (events : List Event) (before : List Reply) (made : ℕ) (after : List Reply) (new : Scene M) : Type 0 where
  pub gained : List Reply
  pub added : after ≡ before ++ gained
  pub count : length gained ≡ made
  pub run : Run ghosts old (take made events) gained new

pub goes_none : {M L : Type 0} (ghosts : Ghosts M L) (old : Scene M) (events : List Event) (before : List Reply) → Goes ghosts old events before 0 before old
goes_none ghosts old events before = record { gained = []; added = sym (append-nil before); count = refl; run = refl }

pub goes_more : {M L : Type 0} (ghosts : Ghosts M L) (old mid new : Scene M) (events : List Event) (before after : List Reply) (made : ℕ) (event first : Event) (reply : Reply) → Goes ghosts old events before made after mid → made < length events → event ≡ get_or events made first → Step ghosts mid event reply new → IsWorld ghosts new → Goes ghosts old events before (made + 1) (after ++ reply ∷ []) new
goes_more ghosts old mid new events before after made event first reply g within is s w =
    let more : take (made + 1) events ≡ take made events ++ event ∷ [] = take_more events made first within ∙ ap (λ (e : Event). take made events ++ e ∷ []) (sym is) in
    record {
      gained = g.gained ++ reply ∷ [];
      added = ap (λ (l : List Reply). l ++ reply ∷ []) g.added ∙ append_assoc before g.gained (reply ∷ []);
      count = omega (arith, g.count, length-append g.gained (reply ∷ []));
      run = rw more (run_more ghosts old mid new (take made events) g.gained event reply g.run s w);
    }

pub goes_ran : {M L : Type 0} (ghosts : Ghosts M L) (old new : Scene M) (events : List Event) (before after : List Reply) (made : ℕ) → Goes ghosts old events before made after new → Ran ghosts old events before after new
goes_ran ghosts old new events before after made g =
    let run : Run ghosts old (take (length g.gained) events) g.gained new = rw g.count g.run in
    record {
      gained = g.gained;
      added = g.added;
      run = run;
      looks = run_watched ghosts (looks_of old.request) old new (take (length g.gained) events) g.gained run (held_now old.request);
    }

-- how far a loop over the events has come: `had` and `has` are how many replies there were and are, and there is
-- room for the rest
pub record Loops {M L : Type 0} (ghosts : Ghosts M L) (old : Scene M) (events : List Event) (before : List Reply) (made : ℕ) (after : List Reply) (new : Scene M) (had has room : ℕ) : Type 0 where
  pub goes : Goes ghosts old events before made after new
  pub world : IsWorld ghosts new
  pub full : has ≡ had + made
  pub fits : has + length events ≤ made + room
