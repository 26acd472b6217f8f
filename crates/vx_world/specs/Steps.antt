-- A lawful step of a world, and a run.
use Rattle.std.specs.Prelude.{◌≡◌, ℕ, ◌+◌, ◌==◌, ◌&&◌, Bool, true, false, not, nat_lt, IsTrue, Option, Some, None, is_none, IsSomeAnd, List, [], ◌∷◌, ◌++◌, length, take}
use Rattle.std.specs.Option.{option_map_or}
use Rattle.vx_arb.specs.declared.members.Member.{Ghosts}
use Rattle.vx_arb.specs.declared.members.Lack.{Lack}
use Rattle.vx_arb.specs.declared.members.Move.{Move}
use Rattle.vx_arb.specs.Members.{is_end}
use Rattle.vx_arb.specs.declared.entries.Look.{Look as Seen}
use Rattle.vx_arb.specs.Books.{Books, Asked, IsReclaimed, after_admit, after_begin, request_for, after_shrink, after_reclaim, after_move, after_look, after_grant, after_abort, after_retire, share_of, moved_of, wanted_of, is_met, is_unmet, note_for}
use Rattle.vx_arb.specs.Rows.{is_live}
use Rattle.vx_world.specs.declared.events.Event.{Event}
use Rattle.vx_world.specs.declared.events.Event.TheVariants.{Admit, Batch, Begin, Shrink, Reclaim, Look, Grant, Abort, Drop, Want, Retire}
use Rattle.vx_world.specs.declared.events.Reply.{Reply}
use Rattle.vx_world.specs.declared.events.Reply.TheVariants.{Admitted, Stepped, Begun, NotLacking, Freed, Looked, Granted, Aborted, Dropped, Wanted, Retired}
use Rattle.vx_world.specs.Scenes.{Scene, IsWorld, member_of, with_member}
use Rattle.vx_world.specs.Looks.{looks_after, looks_of, Holds, Tells}

-- a test of the member of a job, which fails where there is none
abbrev pub on_member : {M L : Type 0} → Ghosts M L → Scene M → ℕ → (M → Bool) → Bool
on_member ghosts scene job test = option_map_or test (member_of ghosts scene.members job) false

-- a test of the request that stands, which fails where none does
abbrev pub on_request : Option Asked → (Asked → Bool) → Bool
on_request request test = option_map_or test request false

-- the member of a job is there, and has ended
abbrev pub HasEnded : {M L : Type 0} → Ghosts M L → Scene M → ℕ → Type 0
HasEnded ghosts scene job = IsTrue (on_member ghosts scene job ghosts.ended_is)

-- whether a job is live and its member there
abbrev pub is_running : {M L : Type 0} → Ghosts M L → Scene M → ℕ → Bool
is_running ghosts scene job = on_member ghosts scene job (λ member. is_live scene.books.live job)

-- whether a request may still shrink another job than its own
abbrev pub may_shrink : ℕ → Asked → Bool
may_shrink job request = nat_lt 0 request.left && not (job == request.job)

-- whether a request may still reclaim: it isn't met
abbrev pub may_reclaim : Books → Asked → Bool
may_reclaim books request = nat_lt 0 request.left && not (is_met books request)

-- whether an event may be made
abbrev pub is_lawful : {M L : Type 0} → Ghosts M L → Scene M → Event → Bool
is_lawful ghosts scene (Admit job most) =
    on_member ghosts scene job (λ member. not (is_live scene.books.live job)) && is_none scene.request
is_lawful ghosts scene (Batch job hint) = on_member ghosts scene job (λ member. true)
is_lawful ghosts scene (Begin job hint) = is_running ghosts scene job && is_none scene.request
is_lawful ghosts scene (Shrink job) = is_running ghosts scene job && on_request scene.request (may_shrink job)
is_lawful ghosts scene (Reclaim job) =
    is_running ghosts scene job && on_request scene.request (may_reclaim scene.books)
is_lawful ghosts scene (Look job) = is_running ghosts scene job && on_request scene.request (λ request. true)
is_lawful ghosts scene Grant =
    on_request scene.request (λ request. is_met scene.books request && is_running ghosts scene request.job)
is_lawful ghosts scene (Abort job) =
    on_member ghosts scene job (λ member. not (ghosts.ended_is member))
    && on_request scene.request (λ request. is_unmet scene.books request job)
is_lawful ghosts scene Drop = on_request scene.request (λ request. true)
is_lawful ghosts scene (Want job) = on_member ghosts scene job (λ member. not (ghosts.ended_is member))
is_lawful ghosts scene (Retire job) =
    on_member ghosts scene job (λ member. is_live scene.books.live job && (ghosts.reserved_is member == 0))
    && not (on_request scene.request (λ request. request.job == job))

-- a member is still of its job, and has ended where it had
pub record Lasts {M L : Type 0} (ghosts : Ghosts M L) (before after : M) : Type 0 where
  pub same : ghosts.job_is after ≡ ghosts.job_is before
  pub over : IsTrue (ghosts.ended_is before) → IsTrue (ghosts.ended_is after)

-- a member was there, and this became of it
pub record Turns {M L : Type 0} (ghosts : Ghosts M L) (old : List M) (job : ℕ) (change : M → M → Type 0) (new : List M) : Type 0 where
  pub before : M
  pub after : M
  pub found : member_of ghosts old job ≡ Some before
  pub turned : change before after
  pub lasts : Lasts ghosts before after
  pub members : new ≡ with_member ghosts old job after

-- a step of a member, which answers whether it has ended since, and leaves one that had as it was
pub record MakesMove {M L : Type 0} (ghosts : Ghosts M L) (hint : ℕ) (move : Move) (before after : M) : Type 0 where
  pub stepped : ghosts.steps before hint move after
  pub ended : is_end move ≡ ghosts.ended_is after
  pub over : IsTrue (ghosts.ended_is before) → after ≡ before

-- what the member of a job lacks under a hint
abbrev pub Lacks : {M L : Type 0} → Ghosts M L → Scene M → ℕ → ℕ → Option Lack → Type 0
Lacks ghosts old job hint lack =
    IsSomeAnd (member_of ghosts old.members job) (λ member. ghosts.lack_is member hint ≡ lack)

-- a request was begun for what a member lacks
pub record Begins {M L : Type 0} (ghosts : Ghosts M L) (old : Scene M) (job hint : ℕ) (new : Scene M) : Type 0 where
  pub lack : Lack
  pub lacks : Lacks ghosts old job hint (Some lack)
  pub books : new.books ≡ after_begin old.books job (Some lack)
  pub request : new.request ≡ Some (request_for old.books job lack)
  pub members : new.members ≡ old.members

-- unused capacity was moved from a member to what is free
pub record Shrinks {M L : Type 0} (ghosts : Ghosts M L) (old : Scene M) (request : Asked) (job amount : ℕ) (new : Scene M) : Type 0 where
  pub turns : Turns ghosts old.members job (λ before after.
      (amount ≡ share_of old.books request (ghosts.unused_is before)) × ghosts.lowers before amount after) new.members
  pub books : new.books ≡ after_shrink old.books job amount
  pub request_is : new.request ≡ Some (after_move request)

-- a member reclaimed, and what it didn't use was moved to what is free
pub record Reclaims {M L : Type 0} (ghosts : Ghosts M L) (old : Scene M) (request : Asked) (job freed : ℕ) (new : Scene M) : Type 0 where
  pub moved : ℕ
  pub turns : Turns ghosts old.members job (λ before after.
      (moved ≡ moved_of old.books request job (ghosts.unused_is before + freed))
      × IsReclaimed ghosts.reclaims ghosts.lowers before (wanted_of old.books request) freed moved after) new.members
  pub books : new.books ≡ after_reclaim old.books job freed moved
  pub request_is : new.request ≡ Some (after_move request)

-- a member was looked at, as it is now
pub record Sees {M L : Type 0} (ghosts : Ghosts M L) (old : Scene M) (request : Asked) (job : ℕ) (new : Scene M) : Type 0 where
  pub member : M
  pub found : member_of ghosts old.members job ≡ Some member
  pub request_is : new.request ≡ Some (after_look request (record {
    job = job;
    unused = ghosts.unused_is member;
    reclaimable = ghosts.reclaimable_is member;
  }))
  pub members : new.members ≡ old.members
  pub books : new.books ≡ old.books

-- a fact on the request that stands
abbrev pub OnAsked : Option Asked → (Asked → Type 0) → Type 0
OnAsked request P = IsSomeAnd request P

-- A lawful step: from one world, an event may be made with this reply and lead to another. What a line
-- doesn't name stays.
abbrev pub Makes : {M L : Type 0} → Ghosts M L → Scene M → Event → Reply → Scene M → Type 0
Makes ghosts old (Admit job most) Admitted new = new ≡ record old { books = after_admit old.books job most }
Makes ghosts old (Batch job hint) (Stepped move) new =
    Turns ghosts old.members job (MakesMove ghosts hint move) new.members
    × (new.books ≡ old.books) × (new.request ≡ old.request)
Makes ghosts old (Begin job hint) NotLacking new = Lacks ghosts old job hint None × (new ≡ old)
Makes ghosts old (Begin job hint) Begun new = Begins ghosts old job hint new
Makes ghosts old (Shrink job) (Freed amount) new = OnAsked old.request (λ request. Shrinks ghosts old request job amount new)
Makes ghosts old (Reclaim job) (Freed amount) new = OnAsked old.request (λ request. Reclaims ghosts old request job amount new)
Makes ghosts old (Look job) Looked new = OnAsked old.request (λ request. Sees ghosts old request job new)
Makes ghosts old Grant Granted new = OnAsked old.request (λ request.
    Turns ghosts old.members request.job (λ before after. ghosts.raises before request.need after) new.members
    × (new.books ≡ after_grant old.books request) × (new.request ≡ None))
Makes ghosts old (Abort job) (Aborted note) new = OnAsked old.request (λ request.
    Turns ghosts old.members job (λ before after. ghosts.aborts before note after) new.members
    × (note ≡ note_for old.books request job) × (new.books ≡ after_abort old.books request job) × (new.request ≡ None))
Makes ghosts old Drop Dropped new = new ≡ record old { books = record old.books { standing = None }; request = None }
Makes ghosts old (Want job) Wanted new =
    Turns ghosts old.members job (λ before after. ghosts.wants before after) new.members
    × (new.books ≡ old.books) × (new.request ≡ old.request)
Makes ghosts old (Retire job) Retired new =
    Turns ghosts old.members job (λ before after. ghosts.lowers before (ghosts.capacity_is before) after) new.members
    × (new.books ≡ after_retire old.books job) × (new.request ≡ old.request)
Makes ghosts old event reply new = ⊥

-- an event is made only where it is lawful
pub record Step {M L : Type 0} (ghosts : Ghosts M L) (old : Scene M) (event : Event) (reply : Reply) (new : Scene M) : Type 0 where
  pub lawful : IsTrue (is_lawful ghosts old event)
  pub makes : Makes ghosts old event reply new

-- An event that may want memory: a lawful admission, or a lawful begin of a request.
abbrev pub MayWant : {M L : Type 0} → Ghosts M L → Scene M → Event → Type 0
MayWant ghosts scene (Admit job most) = IsTrue (is_lawful ghosts scene (Admit job most))
MayWant ghosts scene (Begin job hint) = IsTrue (is_lawful ghosts scene (Begin job hint))
MayWant ghosts scene event = ⊥

-- a run: events made one after another, with their replies, each of which leaves a world that keeps its rule
abbrev pub Run : {M L : Type 0} → Ghosts M L → Scene M → List Event → List Reply → Scene M → Type 0
Run ghosts old [] [] new = new ≡ old
Run ghosts old [] (reply ∷ replies) new = ⊥
Run ghosts old (event ∷ events) [] new = ⊥
Run {M} ghosts old (event ∷ events) (reply ∷ replies) new =
    (mid : Scene M) × (Step ghosts old event reply mid × IsWorld ghosts mid × Run ghosts mid events replies new)

-- A run in which each abort tells just the looks that were made since its request began, and each request
-- that stands holds them. `looks` are those that were held before the run.
abbrev pub Watched : {M L : Type 0} → Ghosts M L → List Seen → Scene M → List Event → List Reply → Scene M → Type 0
Watched ghosts looks old [] [] new = (new ≡ old) × Holds looks old.request
Watched ghosts looks old [] (reply ∷ replies) new = ⊥
Watched ghosts looks old (event ∷ events) [] new = ⊥
Watched {M} ghosts looks old (event ∷ events) (reply ∷ replies) new =
    (mid : Scene M) × (Step ghosts old event reply mid × IsWorld ghosts mid × Holds looks old.request × Tells looks old reply mid
    × Watched ghosts (looks_after ghosts old looks event reply) mid events replies new)

-- what a run of some of the events left: as many were made as replies were added, in order
pub record Ran {M L : Type 0} (ghosts : Ghosts M L) (old : Scene M) (events : List Event) (before after : List Reply) (new : Scene M) : Type 0 where
  pub gained : List Reply
  pub added : after ≡ before ++ gained
  pub run : Run ghosts old (take (length gained) events) gained new
  pub looks : Watched ghosts (looks_of old.request) old (take (length gained) events) gained new
