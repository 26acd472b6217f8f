-- A request holds just the looks that were made since it began.
use Rattle.std.proofs.Common.{◌≡◌, ℕ, Option, Some, None, IsSomeAnd, List, [], ◌∷◌, ◌++◌, length, refl, sym, ◌∙◌, ap, subst}
use Rattle.std.specs.Option.{option_map_or}
use Rattle.vx_arb.specs.declared.members.Member.{Ghosts}
use Rattle.vx_arb.specs.declared.entries.Look.{Look}
use Rattle.vx_arb.specs.declared.entries.AbortNote.{AbortNote}
use Rattle.vx_arb.specs.declared.entries.Entry.TheVariants.{Abort as Aborts}
use Rattle.vx_arb.specs.Books.{Books, Asked, note_for, with_look}
use Rattle.vx_arb.specs.Rows.{capacity_at}
use Rattle.vx_world.specs.declared.events.Event.{Event}
use Rattle.vx_world.specs.declared.events.Event.TheVariants.{Admit, Batch, Begin, Shrink, Reclaim, Look as LookAt, Grant, Abort, Drop, Want, Retire}
use Rattle.vx_world.specs.declared.events.Reply.{Reply}
use Rattle.vx_world.specs.declared.events.Reply.TheVariants.{Admitted, Stepped, Begun, NotLacking, Freed, Looked, Granted, Aborted, Dropped, Wanted, Retired}
use Rattle.vx_world.specs.Scenes.{Scene}
use Rattle.vx_world.specs.Looks.{looks_after, looks_of, Holds, Tells}
use Rattle.vx_world.specs.Steps.{Makes, Run, Watched, Sees}

-- what holds of the request that stands, with its looks
asked_holds : (o : Option Asked) (looks : List Look) (P : Asked → Type 0) (Q : Type 0) → IsSomeAnd o P → Holds looks o → ((r : Asked) → P r → r.looks ≡ looks → Q) → Q
asked_holds None looks P Q m h f = absurd m
asked_holds (Some r) looks P Q m h f = f r m h

same_holds : (o n : Option Asked) (looks : List Look) → n ≡ o → Holds looks o → Holds looks n
same_holds o n looks e h = subst (Holds looks) (sym e) h

none_holds : (n : Option Asked) (looks : List Look) → n ≡ None → Holds looks n
none_holds n looks e = subst (Holds looks) (sym e) tt

some_holds : (n : Option Asked) (looks : List Look) (r : Asked) → n ≡ Some r → r.looks ≡ looks → Holds looks n
some_holds n looks r e h = subst (Holds looks) (sym e) h

-- a look that was made is the one of its member
seen_is : {M L : Type 0} (ghosts : Ghosts M L) (old : Scene M) (looks : List Look) (request : Asked) (job : ℕ) (new : Scene M) → Sees ghosts old request job new → request.looks ≡ looks → Holds (looks_after ghosts old looks (LookAt job) Looked) new.request
seen_is {M} ghosts old looks request job new s e =
    some_holds new.request _ _ s.request_is
    (ap (λ (l : List Look). with_look l (record { job = job; unused = ghosts.unused_is s.member; reclaimable = ghosts.reclaimable_is s.member })) e
    ∙ sym (ap (λ (o : Option M). with_look looks (record { job = job; unused = option_map_or ghosts.unused_is o 0; reclaimable = option_map_or ghosts.reclaimable_is o 0 })) s.found))

event_holds : {M L : Type 0} (ghosts : Ghosts M L) (looks : List Look) (old new : Scene M) (event : Event) (reply : Reply) → Makes ghosts old event reply new → Holds looks old.request → Holds (looks_after ghosts old looks event reply) new.request
event_holds {M} ghosts looks old new (Admit job most) Admitted m h = same_holds old.request new.request looks (ap (λ (s : Scene M). s.request) m) h
event_holds ghosts looks old new (Batch job hint) (Stepped made) m h = same_holds old.request new.request looks m.2 h
event_holds {M} ghosts looks old new (Begin job hint) NotLacking m h = same_holds old.request new.request looks (ap (λ (s : Scene M). s.request) m.1) h
event_holds ghosts looks old new (Begin job hint) Begun m h = some_holds new.request [] _ m.request refl
event_holds ghosts looks old new (Shrink job) (Freed amount) m h =
    asked_holds old.request looks _ (Holds looks new.request) m h (λ r p e. some_holds new.request looks _ p.request_is e)
event_holds ghosts looks old new (Reclaim job) (Freed amount) m h =
    asked_holds old.request looks _ (Holds looks new.request) m h (λ r p e. some_holds new.request looks _ p.request_is e)
event_holds ghosts looks old new (LookAt job) Looked m h =
    asked_holds old.request looks _ (Holds (looks_after ghosts old looks (LookAt job) Looked) new.request) m h (λ r p e. seen_is ghosts old looks r job new p e)
event_holds ghosts looks old new Grant Granted m h =
    asked_holds old.request looks _ (Holds looks new.request) m h (λ r p e. none_holds new.request looks p.2)
event_holds ghosts looks old new (Abort job) (Aborted note) m h =
    asked_holds old.request looks _ (Holds looks new.request) m h (λ r p e. none_holds new.request looks p.3)
event_holds {M} ghosts looks old new Drop Dropped m h = none_holds new.request looks (ap (λ (s : Scene M). s.request) m)
event_holds ghosts looks old new (Want job) Wanted m h = same_holds old.request new.request looks m.2 h
event_holds ghosts looks old new (Retire job) Retired m h = same_holds old.request new.request looks m.2 h
event_holds ghosts looks old new event reply m h = absurd m

abort_tells : (before after : Books) (request : Asked) (job : ℕ) (looks : List Look) (note : AbortNote) → note ≡ note_for before request job → after.log ≡ before.log ++ Aborts (note_for before request job) (capacity_at before.live job) request.looks ∷ [] → request.looks ≡ looks → (note.looks ≡ length looks) × (after.log ≡ before.log ++ Aborts note (capacity_at before.live note.job) looks ∷ [])
abort_tells before after request job looks note is log e = (
  ap (λ (n : AbortNote). n.looks) is ∙ ap (λ (l : List Look). length l) e,
  subst (λ (n : AbortNote). after.log ≡ before.log ++ Aborts n (capacity_at before.live n.job) looks ∷ []) (sym is)
      (subst (λ (l : List Look). after.log ≡ before.log ++ Aborts (note_for before request job) (capacity_at before.live job) l ∷ []) e log),
)

event_tells : {M L : Type 0} (ghosts : Ghosts M L) (looks : List Look) (old new : Scene M) (event : Event) (reply : Reply) → Makes ghosts old event reply new → Holds looks old.request → Tells looks old reply new
event_tells ghosts looks old new (Abort job) (Aborted note) m h =
    asked_holds old.request looks _ (Tells looks old (Aborted note) new) m h
    (λ r p e. abort_tells old.books new.books r job looks note p.1 (ap (λ (b : Books). b.log) p.2) e)
event_tells ghosts looks old new event (Aborted note) m h = absurd m
event_tells ghosts looks old new event reply m h = tt

pub held_now : (o : Option Asked) → Holds (looks_of o) o
held_now None = tt
held_now (Some r) = refl

pub run_watched : {M L : Type 0} (ghosts : Ghosts M L) (looks : List Look) (old new : Scene M) (events : List Event) (replies : List Reply) → Run ghosts old events replies new → Holds looks old.request → Watched ghosts looks old events replies new
run_watched ghosts looks old new [] [] r h = (r, h)
run_watched ghosts looks old new [] (reply ∷ replies) r h = absurd r
run_watched ghosts looks old new (event ∷ events) [] r h = absurd r
run_watched ghosts looks old new (event ∷ events) (reply ∷ replies) r h = (
  r.0,
  (
    r.1.0,
    r.1.1,
    h,
    event_tells ghosts looks old r.0 event reply r.1.0.makes h,
    run_watched ghosts (looks_after ghosts old looks event reply) r.0 new events replies r.1.2 (event_holds ghosts looks old r.0 event reply r.1.0.makes h),
  ),
)
