-- What the log makes of each job's capacity, and of the capacity that no job has.
use Rattle.std.specs.Prelude.{◌≡◌, ℕ, ◌-◌, ◌≤◌, ◌==◌, Bool, false, if◌then◌else◌, List, [], ◌∷◌, sum_by}
use Rattle.std.specs.List.{list_any}
use Rattle.vx_arb.specs.declared.entries.Entry.{Entry}
use Rattle.vx_arb.specs.declared.entries.Entry.TheVariants.{Grant, Shrink, Reclaim, Abort, Retire}

-- the job whose capacity an entry changes
abbrev pub job_of : Entry → ℕ
job_of (Grant job amount) = job
job_of (Shrink job amount) = job
job_of (Reclaim job amount) = job
job_of (Abort note amount looks) = note.job
job_of (Retire job amount) = job

-- what an entry gives to its job
abbrev pub given : Entry → ℕ
given (Grant job amount) = amount
given (Shrink job amount) = 0
given (Reclaim job amount) = 0
given (Abort note amount looks) = 0
given (Retire job amount) = 0

-- what an entry takes from its job
abbrev pub taken : Entry → ℕ
taken (Grant job amount) = 0
taken (Shrink job amount) = amount
taken (Reclaim job amount) = amount
taken (Abort note amount looks) = amount
taken (Retire job amount) = amount

abbrev pub given_to : ℕ → Entry → ℕ
given_to job entry = if job_of entry == job then given entry else 0

abbrev pub taken_from : ℕ → Entry → ℕ
taken_from job entry = if job_of entry == job then taken entry else 0

-- The capacity of a job: its grants, less what was shrunk, reclaimed, and given up in an abort or at
-- its retirement.
abbrev pub capacity_of : List Entry → ℕ → ℕ
capacity_of log job = sum_by (given_to job) log - sum_by (taken_from job) log

-- The capacity that no job has: the total, less what all jobs have.
abbrev pub free_of : List Entry → ℕ → ℕ
free_of log total = total - (sum_by given log - sum_by taken log)

-- whether a log has an entry of a job
abbrev pub is_named : List Entry → ℕ → Bool
is_named log job = list_any (λ entry. job_of entry == job) log

-- the jobs that a log names, each once
abbrev pub jobs_of : List Entry → List ℕ
jobs_of [] = []
jobs_of (entry ∷ rest) = if is_named rest (job_of entry) then jobs_of rest else job_of entry ∷ jobs_of rest

-- the capacities of all jobs together
abbrev pub handed_out : List Entry → ℕ
handed_out log = sum_by (capacity_of log) (jobs_of log)

-- What is free is the total less what the jobs have together, which is no more than there is.
pub record SharesOut (log : List Entry) (total : ℕ) : Type 0 where
  pub within : handed_out log ≤ total
  pub rest : free_of log total ≡ total - handed_out log

-- whether an entry ends the life of a job
abbrev pub is_retirement : ℕ → Entry → Bool
is_retirement job (Grant of amount) = false
is_retirement job (Shrink of amount) = false
is_retirement job (Reclaim of amount) = false
is_retirement job (Abort note amount looks) = false
is_retirement job (Retire of amount) = of == job
