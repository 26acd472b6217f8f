-- What the log leaves free is the total less the capacities of all its jobs.
use Rattle.std.proofs.Common.{◌≡◌, ℕ, ◌+◌, ◌-◌, ◌≤◌, Bool, true, false, cond, eqb, ◌||◌, List, [], ◌∷◌, refl, sym, ◌∙◌, ap, arith}
use Rattle.std.specs.List.{sum_by, count_by}
use Rattle.std.proofs.lemmas.Bool.Decides.{nat_tests}
use Rattle.std.proofs.lemmas.List.Sums.{sum_by-cons}
use Rattle.vx_arb.specs.declared.entries.Entry.{Entry}
use Rattle.vx_arb.specs.Log.{job_of, given, taken, given_to, taken_from, is_named, jobs_of, handed_out, SharesOut}
use Rattle.vx_arb.specs.Books.{Books, IsBooks}

-- one where a test passes
abbrev mark : Bool → ℕ
mark passes = cond passes 1 0

-- how often a job is in a list
abbrev count : ℕ → List ℕ → ℕ
count job jobs = count_by (λ (each : ℕ). eqb job each) jobs

count_more : (job first : ℕ) (jobs : List ℕ) → count job (first ∷ jobs) ≡ mark (eqb job first) + count job jobs
count_more job first jobs = sum_by-cons (λ (each : ℕ). mark (eqb job each)) first jobs

once_here : (entry : Entry) (rest : List Entry) (job : ℕ) → eqb job (job_of entry) ≡ true → job_of entry ≡ job → count job (jobs_of rest) ≡ mark (is_named rest job) → count job (jobs_of (entry ∷ rest)) ≡ 1
once_here entry rest job e same later =
    elim (is_named rest (job_of entry)) as (λ n. is_named rest (job_of entry) ≡ n → count job (cond n (jobs_of rest) (job_of entry ∷ jobs_of rest)) ≡ 1) [
      | true ↦ λ there. let named : is_named rest job ≡ true = ap (λ n. is_named rest n) (sym same) ∙ there in
          later ∙ ap mark named
      | false ↦ λ none. let named : is_named rest job ≡ false = ap (λ n. is_named rest n) (sym same) ∙ none in
          omega (arith, count_more job (job_of entry) (jobs_of rest), ap mark e, later, ap mark named)
    ] refl

once_other : (entry : Entry) (rest : List Entry) (job : ℕ) → eqb job (job_of entry) ≡ false → count job (jobs_of rest) ≡ mark (is_named rest job) → count job (jobs_of (entry ∷ rest)) ≡ mark (is_named rest job)
once_other entry rest job e later =
    elim (is_named rest (job_of entry)) as (λ n. count job (cond n (jobs_of rest) (job_of entry ∷ jobs_of rest)) ≡ mark (is_named rest job)) [
      | true ↦ later
      | false ↦ omega (arith, count_more job (job_of entry) (jobs_of rest), ap mark e, later)
    ]

-- each job that a log names is once among its jobs, and no other is
pub named_once : (log : List Entry) (job : ℕ) → count job (jobs_of log) ≡ mark (is_named log job)
named_once [] job = refl
named_once (entry ∷ rest) job =
    elim (eqb (job_of entry) job) as (λ b. eqb (job_of entry) job ≡ b → count job (jobs_of (entry ∷ rest)) ≡ mark (b || is_named rest job)) [
      | true ↦ λ e. once_here entry rest job (grind (arith, nat_tests)) (grind (arith, nat_tests)) (named_once rest job)
      | false ↦ λ e. once_other entry rest job (grind (arith, nat_tests)) (named_once rest job)
    ] refl

named_first : (entry : Entry) (rest : List Entry) → is_named (entry ∷ rest) (job_of entry) ≡ true
named_first entry rest =
    let same : eqb (job_of entry) (job_of entry) ≡ true = grind (arith, nat_tests) in
    rw same refl

named_later : (entry : Entry) (rest : List Entry) (job : ℕ) → is_named rest job ≡ true → is_named (entry ∷ rest) job ≡ true
named_later entry rest job named =
    elim (eqb (job_of entry) job) as (λ b. (b || is_named rest job) ≡ true) [ true ↦ refl | false ↦ named ]

-- an amount of one job, added up over jobs: nothing where it isn't among them, and the amount where it is once
none_step : (b : Bool) (amount more sum : ℕ) → mark b + more ≡ 0 → (more ≡ 0 → sum ≡ 0) → cond b amount 0 + sum ≡ 0
none_step true amount more sum h none = absurd (omega (arith, h))
none_step false amount more sum h none = omega (arith, none (omega (arith, h)))

picked_none : (job amount : ℕ) (jobs : List ℕ) → count job jobs ≡ 0 → sum_by (λ (each : ℕ). cond (eqb job each) amount 0) jobs ≡ 0
picked_none job amount [] h = refl
picked_none job amount (first ∷ jobs) h =
    sum_by-cons (λ (each : ℕ). cond (eqb job each) amount 0) first jobs
    ∙ none_step (eqb job first) amount (count job jobs) _ (sym (count_more job first jobs) ∙ h) (picked_none job amount jobs)

once_step : (b : Bool) (amount more sum : ℕ) → mark b + more ≡ 1 → (more ≡ 0 → sum ≡ 0) → (more ≡ 1 → sum ≡ amount) → cond b amount 0 + sum ≡ amount
once_step true amount more sum h none once = omega (arith, none (omega (arith, h)))
once_step false amount more sum h none once = omega (arith, once (omega (arith, h)))

picked_once : (job amount : ℕ) (jobs : List ℕ) → count job jobs ≡ 1 → sum_by (λ (each : ℕ). cond (eqb job each) amount 0) jobs ≡ amount
picked_once job amount [] h = absurd (omega (arith, h))
picked_once job amount (first ∷ jobs) h =
    sum_by-cons (λ (each : ℕ). cond (eqb job each) amount 0) first jobs
    ∙ once_step (eqb job first) amount (count job jobs) _ (sym (count_more job first jobs) ∙ h) (picked_none job amount jobs) (picked_once job amount jobs)

sum_nothing : (jobs : List ℕ) → sum_by {X = ℕ} (λ (job : ℕ). 0) jobs ≡ 0
sum_nothing [] = refl
sum_nothing (job ∷ jobs) = omega (arith, sum_by-cons {X = ℕ} (λ (each : ℕ). 0) job jobs, sum_nothing jobs)

-- what an entry adds to a sum over jobs of sums over a log
sum_split : (f : ℕ → Entry → ℕ) (entry : Entry) (rest : List Entry) (jobs : List ℕ) → sum_by (λ (job : ℕ). sum_by (f job) (entry ∷ rest)) jobs ≡ sum_by (λ (job : ℕ). f job entry) jobs + sum_by (λ (job : ℕ). sum_by (f job) rest) jobs
sum_split f entry rest [] = refl
sum_split f entry rest (job ∷ jobs) =
    omega (arith, sum_by-cons (λ (job : ℕ). sum_by (f job) (entry ∷ rest)) job jobs, sum_by-cons (λ (job : ℕ). f job entry) job jobs, sum_by-cons (λ (job : ℕ). sum_by (f job) rest) job jobs, sum_by-cons (f job) entry rest, sum_split f entry rest jobs)

-- what a log says of each of its jobs is together what it says
summed : (amount : Entry → ℕ) (log : List Entry) (jobs : List ℕ) → ((job : ℕ) → is_named log job ≡ true → count job jobs ≡ 1) → sum_by (λ (job : ℕ). sum_by (λ entry. cond (eqb (job_of entry) job) (amount entry) 0) log) jobs ≡ sum_by amount log
summed amount [] jobs once = sum_nothing jobs
summed amount (entry ∷ rest) jobs once =
    omega (arith, sum_split (λ job entry. cond (eqb (job_of entry) job) (amount entry) 0) entry rest jobs, picked_once (job_of entry) (amount entry) jobs (once (job_of entry) (named_first entry rest)), sum_by-cons amount entry rest, summed amount rest jobs (λ job named. once job (named_later entry rest job named)))

sum_left : (more less : ℕ → ℕ) (jobs : List ℕ) → ((job : ℕ) → less job ≤ more job) → sum_by (λ (job : ℕ). more job - less job) jobs + sum_by less jobs ≡ sum_by more jobs
sum_left more less [] le = refl
sum_left more less (job ∷ jobs) le =
    omega (arith, sum_by-cons (λ (job : ℕ). more job - less job) job jobs, sum_by-cons less job jobs, sum_by-cons more job jobs, le job, sum_left more less jobs le)

-- Where the log takes from no job what it didn't give it, and gives no more than there is, what it leaves free is
-- the total less the capacities of all jobs.
pub log_shares_out : (log : List Entry) (total : ℕ) → ((job : ℕ) → sum_by (taken_from job) log ≤ sum_by (given_to job) log) → sum_by given log ≤ total + sum_by taken log → SharesOut log total
log_shares_out log total covered backed =
    let once : (job : ℕ) → is_named log job ≡ true → count job (jobs_of log) ≡ 1 = λ job named. named_once log job ∙ ap mark named in
    let gave : sum_by (λ (job : ℕ). sum_by (given_to job) log) (jobs_of log) ≡ sum_by given log = summed given log (jobs_of log) once in
    let took : sum_by (λ (job : ℕ). sum_by (taken_from job) log) (jobs_of log) ≡ sum_by taken log = summed taken log (jobs_of log) once in
    let left : handed_out log + sum_by (λ (job : ℕ). sum_by (taken_from job) log) (jobs_of log) ≡ sum_by (λ (job : ℕ). sum_by (given_to job) log) (jobs_of log) =
    sum_left (λ job. sum_by (given_to job) log) (λ job. sum_by (taken_from job) log) (jobs_of log) covered in
    record {
      within = omega (arith, gave, took, left, backed);
      rest = omega (arith, gave, took, left);
    }

-- so it is of an arbitrator's log
pub shares_out : (books : Books) → IsBooks books → SharesOut books.log books.total
shares_out books rule = log_shares_out books.log books.total rule.covered rule.backed
