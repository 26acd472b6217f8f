-- What the arbitrator keeps, and what each of its calls makes of it.
use Rattle.std.specs.Prelude.{◌≡◌, ℕ, ◌+◌, ◌-◌, ◌*◌, ◌^◌, ◌<◌, ◌≤◌, ◌==◌, ◌&&◌, Bool, false, not, if◌then◌else◌, nat_lt, nat_le, min, max, IsTrue, Option, Some, None, IfSome, List, [], ◌∷◌, ◌++◌, length, take, sum_by, count_by, slice_get}
use Rattle.std.specs.Option.{option_map_or}
use Rattle.std.specs.List.{list_any, list_all}
use Rattle.vx_arb.specs.declared.entries.Look.{Look}
use Rattle.vx_arb.specs.declared.entries.AbortNote.{AbortNote}
use Rattle.vx_arb.specs.declared.entries.NoteCause.{NoteCause}
use Rattle.vx_arb.specs.declared.entries.NoteCause.TheVariants.{Total, Own}
use Rattle.vx_arb.specs.declared.entries.Entry.{Entry}
use Rattle.vx_arb.specs.declared.entries.Entry.TheVariants.{Grant, Shrink, Reclaim, Abort, Retire}
use Rattle.vx_arb.specs.declared.rows.Admitted.{Admitted}
use Rattle.vx_arb.specs.declared.rows.Live.{Live}
use Rattle.vx_arb.specs.declared.rows.Standing.{Standing}
use Rattle.vx_arb.specs.declared.members.Lack.{Lack}
use Rattle.vx_arb.specs.Log.{given, taken, given_to, taken_from, capacity_of, free_of}
use Rattle.vx_arb.specs.Rows.{is_live, capacity_at, max_at, max_in, with_capacity, without, is_largest, one_less}
use Rattle.vx_arb.specs.Unmet.{max_of, saw_nothing, saw_no_unused, IsJust}

-- The arbitrator: the whole capacity, what of it no job has, the log, the live jobs, all admissions, how
-- many requests were begun, and the one that stands. `spare` is for how many more entries the log has
-- room without taking memory.
pub record Books : Type 0 where
  pub total : ℕ
  pub free : ℕ
  pub log : List Entry
  pub live : List Live
  pub admitted : List Admitted
  pub requests : ℕ
  pub standing : Option Standing
  pub spare : ℕ

-- A request, in the hands of the one who begun it: `left` is how many more shrinks and reclaims it may
-- make, and `room` for how many more looks there is room.
pub record Asked : Type 0 where
  pub number : ℕ
  pub job : ℕ
  pub need : ℕ
  pub would : ℕ
  pub looks : List Look
  pub left : ℕ
  pub room : ℕ

-- The request that stands is of a live job, which would have what it has and needs, and there is room for
-- all its entries and those that end the live jobs.
pub record IsStanding (live : List Live) (spare : ℕ) (standing : Standing) : Type 0 where
  pub there : IsTrue (is_live live standing.job)
  pub adds : standing.would ≡ capacity_at live standing.job + standing.need
  pub room : length live + standing.left + 1 ≤ spare

-- The rule of the arbitrator's books.
pub record IsBooks (books : Books) : Type 0 where
  pub bounded : books.total ≤ 2 ^ 33
  pub few : length books.live < 2 ^ 32
  -- what is free is what the log leaves, and with the capacities of the live jobs it is the total
  pub balance : books.free ≡ free_of books.log books.total
  pub adds_up : books.free + sum_by (λ (row : Live). row.capacity) books.live ≡ books.total
  -- each job has the capacity that the log gives it, which is at most its max
  pub rows : (job : ℕ) → capacity_at books.live job ≡ capacity_of books.log job
  pub within : (job : ℕ) → capacity_at books.live job ≤ max_in books.live job
  -- nothing was taken that wasn't given, and no more is given than there is
  pub covered : (job : ℕ) → sum_by (taken_from job) books.log ≤ sum_by (given_to job) books.log
  pub covered_all : sum_by taken books.log ≤ sum_by given books.log
  pub backed : sum_by given books.log ≤ books.total + sum_by taken books.log
  -- a job has one row at most, with the max of its last admission
  pub single : (job : ℕ) → count_by (λ (row : Live). row.job == job) books.live ≤ 1
  pub lives : (job : ℕ) → max_at books.live job ≡ max_of books.admitted books.log job
  pub past : IsTrue (list_all (λ (a : Admitted). nat_le a.at (length books.log)) books.admitted)
  -- every abort was unavoidable
  pub just : (k : ℕ)
      → IfSome (slice_get books.log k) (IsJust books.total books.admitted (take k books.log))
  -- the request that stands agrees with its job's row, and there is room for what can't be refused
  pub stands : IfSome books.standing (IsStanding books.live books.spare)
  pub room : length books.live ≤ books.spare

-- the books with all capacity free
abbrev pub new_books : ℕ → Books
new_books total = record {
  total = total;
  free = total;
  log = [];
  live = [];
  admitted = [];
  requests = 0;
  standing = None;
  spare = 0;
}

abbrev pub after_admit : Books → ℕ → ℕ → Books
after_admit books job most = record books {
  live = books.live ++ record { job = job; max = most; capacity = 0 } ∷ [];
  admitted = books.admitted ++ record { job = job; max = most; at = length books.log } ∷ [];
  spare = books.spare + 1;
}

-- the number of the next request: the count stays at the last number
abbrev pub next_number : Books → ℕ
next_number books = min (books.requests + 1) (2 ^ 64 - 1)

-- what stands of a request
abbrev pub standing_of : Asked → Standing
standing_of request = record {
  number = request.number;
  job = request.job;
  need = request.need;
  would = request.would;
  left = request.left;
}

-- the request that is begun for a lack
abbrev pub request_for : Books → ℕ → Lack → Asked
request_for books job lack = record {
  number = next_number books;
  job = job;
  need = lack.need;
  would = lack.would;
  looks = [];
  left = 3 * length books.live;
  room = length books.live;
}

-- the books once a request was begun, where there was a lack
abbrev pub after_begin : Books → ℕ → Option Lack → Books
after_begin books job None = books
after_begin books job (Some lack) = record books {
  requests = next_number books;
  standing = Some (standing_of (request_for books job lack));
  spare = max books.spare (4 * length books.live + 1);
}

abbrev pub has_look : List Look → ℕ → Bool
has_look looks job = list_any (λ (look : Look). look.job == job) looks

-- how many live jobs have no look
abbrev pub unseen : List Live → List Look → ℕ
unseen live looks = count_by (λ (row : Live). not (has_look looks row.job)) live

-- the request is the one that stands, with room for a look at each live job that has none
pub record Stands (books : Books) (request : Asked) : Type 0 where
  pub same : books.standing ≡ Some (standing_of request)
  pub seats : unseen books.live request.looks ≤ request.room

-- whether the request that stands is of a job
abbrev pub is_requester : Option Standing → ℕ → Bool
is_requester standing job = option_map_or (λ (s : Standing). s.job == job) standing false

-- whether the requester's max allows what it would have, and that is free
abbrev pub is_met : Books → Asked → Bool
is_met books request =
    nat_le request.would (max_in books.live request.job) && nat_le request.need books.free

-- how much of its unused capacity a job gives for a request
abbrev pub share_of : Books → Asked → ℕ → ℕ
share_of books request unused = min unused (request.need - books.free)

-- how much a request wants a job to reclaim: what it would have past its max, or what isn't free
abbrev pub wanted_of : Books → Asked → ℕ
wanted_of books request =
    if nat_lt (max_in books.live request.job) request.would
    then request.would - max_in books.live request.job
    else request.need - books.free

-- an entry was written, by which a job gave an amount to what is free
abbrev pub with_taken : Books → ℕ → ℕ → Entry → Books
with_taken books job amount entry = record books {
  free = books.free + amount;
  log = books.log ++ entry ∷ [];
  live = with_capacity books.live job (capacity_at books.live job - amount);
  spare = books.spare - 1;
}

-- a shrink or a reclaim was made, with an entry or without
abbrev pub after_taking : Books → ℕ → ℕ → Option Entry → Books
after_taking books job amount None = record books { standing = one_less books.standing }
after_taking books job amount (Some entry) =
    record (with_taken books job amount entry) { standing = one_less books.standing }

-- a shrink is written where something was moved
abbrev pub shrink_entry : ℕ → ℕ → Option Entry
shrink_entry job moved = if moved == 0 then None else Some (Shrink job moved)

-- a reclaim is written where something was freed
abbrev pub reclaim_entry : ℕ → ℕ → ℕ → Option Entry
reclaim_entry job freed moved = if freed == 0 then shrink_entry job moved else Some (Reclaim job moved)

abbrev pub after_shrink : Books → ℕ → ℕ → Books
after_shrink books job moved = after_taking books job moved (shrink_entry job moved)

abbrev pub after_reclaim : Books → ℕ → ℕ → ℕ → Books
after_reclaim books job freed moved = after_taking books job moved (reclaim_entry job freed moved)

-- what a reclaim moves: nothing from the requester, and else what it gives once so much was freed
abbrev pub moved_of : Books → Asked → ℕ → ℕ → ℕ
moved_of books request job unused = if job == request.job then 0 else share_of books request unused

-- the request with one shrink or reclaim less to make
abbrev pub after_move : Asked → Asked
after_move request = record request { left = request.left - 1 }

-- the looks, with one that is new or takes the place of that of its job
abbrev pub with_look : List Look → Look → List Look
with_look [] new = new ∷ []
with_look (look ∷ rest) new = if look.job == new.job then new ∷ rest else look ∷ with_look rest new

abbrev pub after_look : Asked → Look → Asked
after_look request look = record request {
  looks = with_look request.looks look;
  room = (if has_look request.looks look.job then request.room else request.room - 1);
}

-- what is free was given to a job, and no request stands
abbrev pub with_given : Books → ℕ → ℕ → Books
with_given books job amount = record books {
  free = books.free - amount;
  log = books.log ++ Grant job amount ∷ [];
  live = with_capacity books.live job (capacity_at books.live job + amount);
  standing = None;
  spare = books.spare - 1;
}

abbrev pub after_grant : Books → Asked → Books
after_grant books request = with_given books request.job request.need

-- why a request isn't met
abbrev pub cause_of : Books → Asked → NoteCause
cause_of books request = if nat_lt (max_in books.live request.job) request.would then Own else Total

-- A request past its own max may abort its own job, once that has nothing to reclaim.
abbrev pub is_unmet_own : Asked → ℕ → Bool
is_unmet_own request job = (job == request.job) && saw_nothing request.looks job

-- Another may abort the largest live job, once no live job has anything to reclaim, no job but the
-- requester has unused capacity, and still too little is free.
abbrev pub is_unmet_total : Books → Asked → ℕ → Bool
is_unmet_total books request job =
    nat_lt books.free request.need
    && list_all (λ (row : Live). saw_nothing request.looks row.job) books.live
    && saw_no_unused request.looks request.job
    && is_live books.live job
    && is_largest books.live job

-- whether a request may abort a job
abbrev pub is_unmet : Books → Asked → ℕ → Bool
is_unmet books request job =
    if nat_lt (max_in books.live request.job) request.would then is_unmet_own request job
    else is_unmet_total books request job

-- what the job is told that a request aborts
abbrev pub note_for : Books → Asked → ℕ → AbortNote
note_for books request job = record {
  request = request.number;
  by = request.job;
  job = job;
  cause = cause_of books request;
  need = request.need;
  free = books.free;
  looks = length request.looks;
}

abbrev pub after_abort : Books → Asked → ℕ → Books
after_abort books request job =
    record (with_taken books job (capacity_at books.live job)
    (Abort (note_for books request job) (capacity_at books.live job) request.looks)) { standing = None }

abbrev pub after_retire : Books → ℕ → Books
after_retire books job = record books {
  free = books.free + capacity_at books.live job;
  log = books.log ++ Retire job (capacity_at books.live job) ∷ [];
  live = without books.live job;
  spare = books.spare - 1;
}

-- A member was reclaimed from and then lowered, by what its relations for these calls say.
pub record IsReclaimed {M : Type 0} (reclaims : M → ℕ → ℕ → M → Type 0) (lowers : M → ℕ → M → Type 0) (old : M) (wanted freed moved : ℕ) (new : M) : Type 0 where
  pub between : M
  pub reclaimed : reclaims old wanted freed between
  pub lowered : lowers between moved new
