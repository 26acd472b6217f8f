-- Which looks a request holds, told by the events of a run: those made since it began.
use Rattle.std.specs.Prelude.{◌≡◌, ℕ, Option, IfSome, List, [], ◌∷◌, ◌++◌, length}
use Rattle.std.specs.Option.{option_map_or}
use Rattle.vx_arb.specs.declared.members.Member.{Ghosts}
use Rattle.vx_arb.specs.declared.entries.Look.{Look}
use Rattle.vx_arb.specs.declared.entries.Entry.TheVariants.{Abort}
use Rattle.vx_arb.specs.Books.{Asked, with_look}
use Rattle.vx_arb.specs.Rows.{capacity_at}
use Rattle.vx_world.specs.declared.events.Event.{Event}
use Rattle.vx_world.specs.declared.events.Event.TheVariants.{Begin, Look as LookAt}
use Rattle.vx_world.specs.declared.events.Reply.{Reply}
use Rattle.vx_world.specs.declared.events.Reply.TheVariants.{Begun, Looked, Aborted}
use Rattle.vx_world.specs.Scenes.{Scene, member_of}

-- a number of the member of a job, 0 where there is none
abbrev pub number_of : {M L : Type 0} → Ghosts M L → Scene M → ℕ → (M → ℕ) → ℕ
number_of ghosts scene job number = option_map_or number (member_of ghosts scene.members job) 0

-- what a look at a job sees in a world: its member as it is there
abbrev pub look_at : {M L : Type 0} → Ghosts M L → Scene M → ℕ → Look
look_at ghosts scene job = record {
  job = job;
  unused = number_of ghosts scene job ghosts.unused_is;
  reclaimable = number_of ghosts scene job ghosts.reclaimable_is;
}

-- The looks made since the last request began, once an event was made in a world: a request begins with
-- none, and only a look adds one, in the place of an earlier one at its job.
abbrev pub looks_after : {M L : Type 0} → Ghosts M L → Scene M → List Look → Event → Reply → List Look
looks_after ghosts scene looks (Begin job hint) Begun = []
looks_after ghosts scene looks (LookAt job) Looked = with_look looks (look_at ghosts scene job)
looks_after ghosts scene looks event reply = looks

-- the looks of the request that stands, none where none does
abbrev pub looks_of : Option Asked → List Look
looks_of request = option_map_or (λ (request : Asked). request.looks) request []

-- the request that stands, if one does, holds these looks and no other
abbrev pub Holds : List Look → Option Asked → Type 0
Holds looks request = IfSome request (λ request. request.looks ≡ looks)

-- an abort's note counts these looks, and the entry that it adds to the log holds them
abbrev pub Tells : {M : Type 0} → List Look → Scene M → Reply → Scene M → Type 0
Tells looks old (Aborted note) new =
    (note.looks ≡ length looks)
    × (new.books.log ≡ old.books.log ++ Abort note (capacity_at old.books.live note.job) looks ∷ [])
Tells looks old reply new = Unit {0}
