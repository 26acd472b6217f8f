-- When an abort was unavoidable, told from the log before it.
use Rattle.std.specs.Prelude.{◌≡◌, ℕ, ◌+◌, ◌<◌, ◌≤◌, ◌==◌, ◌&&◌, ◌||◌, Bool, if◌then◌else◌, nat_lt, nat_le, IsTrue, Option, Some, None, IsSome, IsSomeAnd, option_and_then, List, [], ◌∷◌, length, count_by, drop}
use Rattle.std.specs.List.{list_any, list_all}
use Rattle.vx_arb.specs.declared.entries.Look.{Look}
use Rattle.vx_arb.specs.declared.entries.AbortNote.{AbortNote}
use Rattle.vx_arb.specs.declared.entries.NoteCause.{NoteCause}
use Rattle.vx_arb.specs.declared.entries.NoteCause.TheVariants.{Total, Own}
use Rattle.vx_arb.specs.declared.entries.Entry.{Entry}
use Rattle.vx_arb.specs.declared.entries.Entry.TheVariants.{Grant, Shrink, Reclaim, Abort, Retire}
use Rattle.vx_arb.specs.declared.rows.Admitted.{Admitted}
use Rattle.vx_arb.specs.Log.{capacity_of, free_of, is_retirement}

-- of two admissions the later one, where there is one
abbrev pub later : Option Admitted → Option Admitted → Option Admitted
later None before = before
later (Some after) before = Some after

-- the last admission of a job while the log had at most so many entries
abbrev pub admission_of : List Admitted → ℕ → ℕ → Option Admitted
admission_of [] job entries = None
admission_of (first ∷ rest) job entries =
    later (admission_of rest job entries)
    (if (first.job == job) && nat_le first.at entries then Some first else None)

-- the max with which a job is live once the log is this: it was admitted, and hasn't retired since
abbrev pub max_of : List Admitted → List Entry → ℕ → Option ℕ
max_of admitted log job =
    option_and_then
    (λ (last : Admitted). if list_any (is_retirement job) (drop last.at log) then None else Some last.max)
    (admission_of admitted job (length log))

-- no job has two looks
abbrev pub AreSingle : List Look → Type 0
AreSingle looks = (job : ℕ) → count_by (λ (look : Look). look.job == job) looks ≤ 1

-- whether a look saw that a job had nothing to reclaim
abbrev pub saw_nothing : List Look → ℕ → Bool
saw_nothing looks job =
    list_any (λ (look : Look). (look.job == job) && (look.reclaimable == 0)) looks

-- whether every look but that of one job saw no unused capacity
abbrev pub saw_no_unused : List Look → ℕ → Bool
saw_no_unused looks by =
    list_all (λ (look : Look). (look.job == by) || (look.unused == 0)) looks

-- whether one capacity is less than another, or as large and its job's number at most the other's
abbrev pub is_at_most : ℕ → ℕ → ℕ → ℕ → Bool
is_at_most capacity job other_capacity other =
    nat_lt capacity other_capacity || ((capacity == other_capacity) && nat_le job other)

-- The request would pass its own job's max, and that job has nothing to reclaim.
pub record PassesOwnMax (max : ℕ → Option ℕ) (log : List Entry) (note : AbortNote) (looks : List Look) : Type 0 where
  pub victim : note.job ≡ note.by
  pub past : IsSomeAnd (max note.by) (λ most. most < capacity_of log note.by + note.need)
  pub emptied : IsTrue (saw_nothing looks note.by)

-- The request is within its job's max, but more than what is free. No live job has anything to reclaim,
-- none but the requester has unused capacity, and the largest is aborted.
pub record LacksOfTotal (max : ℕ → Option ℕ) (log : List Entry) (note : AbortNote) (looks : List Look) : Type 0 where
  pub within : IsSomeAnd (max note.by) (λ most. capacity_of log note.by + note.need ≤ most)
  pub lacking : note.free < note.need
  pub emptied : (job : ℕ) → IsSome (max job) → IsTrue (saw_nothing looks job)
  pub shrunk : IsTrue (saw_no_unused looks note.by)
  pub live : IsSome (max note.job)
  pub largest : (job : ℕ) → IsSome (max job)
      → IsTrue (is_at_most (capacity_of log job) job (capacity_of log note.job) note.job)

abbrev pub IsUnmetBy : NoteCause → (ℕ → Option ℕ) → List Entry → AbortNote → List Look → Type 0
IsUnmetBy Total = LacksOfTotal
IsUnmetBy Own = PassesOwnMax

-- An abort with this note, amount and looks was unavoidable: `log` is the log before it, and `max` has
-- the max of each job that was live then.
pub record IsUnmet (total : ℕ) (max : ℕ → Option ℕ) (log : List Entry) (note : AbortNote) (amount : ℕ) (looks : List Look) : Type 0 where
  pub free_was : note.free ≡ free_of log total
  pub had : amount ≡ capacity_of log note.job
  pub single : AreSingle looks
  pub counted : note.looks ≡ length looks
  pub cause : IsUnmetBy note.cause max log note looks

-- what an entry says of the log before it: an abort was unavoidable
abbrev pub IsJust : ℕ → List Admitted → List Entry → Entry → Type 0
IsJust total admitted log (Grant job amount) = Unit {0}
IsJust total admitted log (Shrink job amount) = Unit {0}
IsJust total admitted log (Reclaim job amount) = Unit {0}
IsJust total admitted log (Abort note amount looks) = IsUnmet total (max_of admitted log) log note amount looks
IsJust total admitted log (Retire job amount) = Unit {0}
