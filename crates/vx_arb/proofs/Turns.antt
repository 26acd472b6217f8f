-- What the calls of the arbitrator keep, in the words in which their proofs ask for it: `books` is what the
-- fields are seen as, `now` what the call was given.
use Rattle.std.proofs.Common.{◌≡◌, ℕ, ◌+◌, ◌-◌, ◌^◌, ◌<◌, ◌≤◌, false, Option, None, IsTrue, List, [], ◌∷◌, ◌++◌, length, sym, subst, arith}
use Rattle.vx_arb.specs.declared.entries.Entry.{Entry}
use Rattle.vx_arb.specs.declared.entries.Entry.TheVariants.{Grant, Retire}
use Rattle.vx_arb.specs.declared.rows.Admitted.{Admitted}
use Rattle.vx_arb.specs.declared.rows.Live.{Live}
use Rattle.vx_arb.specs.declared.rows.Standing.{Standing}
use Rattle.vx_arb.specs.Rows.{is_live, capacity_at, max_in, with_capacity, without}
use Rattle.vx_arb.specs.Books.{Books, is_requester}
use Rattle.vx_arb.specs.Keeping.{IsKept, MayTake}
use Rattle.vx_arb.proofs.RowLemmas.{capacity_in_sum}
use Rattle.vx_arb.proofs.Keeps.{kept_written, writes_taken, writes_given, kept_retired, kept_admitted}

-- what a job has fits beside what is free
pub share_fits : (books now : Books) (job amount fit : ℕ) → books ≡ now → IsKept books fit → amount ≤ capacity_at now.live job → books.free + amount ≤ 2 ^ 33
share_fits books now job amount fit same k had =
    let here : amount ≤ capacity_at books.live job = subst (λ (b : Books). amount ≤ capacity_at b.live job) (sym same) had in
    omega (arith, here, capacity_in_sum books.live job, k.rule.adds_up, k.rule.bounded)

-- a grant leaves a job's capacity small
pub grant_fits : (books now : Books) (job amount fit : ℕ) → books ≡ now → IsKept books fit → amount ≤ now.free → capacity_at books.live job + amount ≤ 2 ^ 33
grant_fits books now job amount fit same k free =
    let here : amount ≤ books.free = subst (λ (b : Books). amount ≤ b.free) (sym same) free in
    omega (arith, here, capacity_in_sum books.live job, k.rule.adds_up, k.rule.bounded)

pub taken_kept : (books now : Books) (job amount : ℕ) (entry : Entry) (standing : Option Standing) (fit : ℕ) (free capacity wide : ℕ) (log : List Entry) (live : List Live)
    → books ≡ now → IsKept books fit → MayTake now job amount entry standing
    → free ≡ books.free + amount → log ≡ books.log ++ entry ∷ [] → live ≡ with_capacity books.live job capacity → capacity ≡ capacity_at books.live job - amount → wide ≡ fit
    → IsKept (record { total = books.total; free = free; log = log; live = live; admitted = books.admitted; requests = books.requests; standing = standing; spare = books.spare - 1 }) wide
taken_kept books now job amount entry standing fit free capacity wide log live same k may e1 e2 e3 e4 e5 =
    let may_here : MayTake books job amount entry standing = subst (λ (b : Books). MayTake b job amount entry standing) (sym same) may in
    rw (e1, e2, e3, e4, e5) (kept_written books job entry (books.free + amount) (capacity_at books.live job - amount) standing fit k (writes_taken books job amount entry standing k.rule may_here))

pub given_kept : (books now : Books) (job amount fit free capacity wide : ℕ) (log : List Entry) (live : List Live)
    → books ≡ now → IsKept books fit → IsTrue (is_live now.live job) → amount ≤ now.free → capacity_at now.live job + amount ≤ max_in now.live job → length now.live < now.spare
    → free + amount ≡ books.free → log ≡ books.log ++ Grant job amount ∷ [] → live ≡ with_capacity books.live job capacity → capacity ≡ capacity_at books.live job + amount → wide ≡ fit
    → IsKept (record { total = books.total; free = free; log = log; live = live; admitted = books.admitted; requests = books.requests; standing = None; spare = books.spare - 1 }) wide
given_kept books now job amount fit free capacity wide log live same k there had within seat e1 e2 e3 e4 e5 =
    let there_here : IsTrue (is_live books.live job) = subst (λ (b : Books). IsTrue (is_live b.live job)) (sym same) there in
    let had_here : amount ≤ books.free = subst (λ (b : Books). amount ≤ b.free) (sym same) had in
    let within_here : capacity_at books.live job + amount ≤ max_in books.live job = subst (λ (b : Books). capacity_at b.live job + amount ≤ max_in b.live job) (sym same) within in
    let seat_here : length books.live < books.spare = subst (λ (b : Books). length b.live < b.spare) (sym same) seat in
    let left : free ≡ books.free - amount = omega (arith, e1) in
    rw (left, e2, e3, e4, e5) (kept_written books job (Grant job amount) (books.free - amount) (capacity_at books.live job + amount) None fit k (writes_given books job amount there_here had_here within_here seat_here))

pub retired_kept : (books now : Books) (job amount fit free wide : ℕ) (log : List Entry) (live : List Live)
    → books ≡ now → IsKept books fit → IsTrue (is_live now.live job) → amount ≡ capacity_at now.live job → is_requester now.standing job ≡ false
    → free ≡ books.free + amount → log ≡ books.log ++ Retire job amount ∷ [] → live ≡ without books.live job → wide ≡ fit
    → IsKept (record { total = books.total; free = free; log = log; live = live; admitted = books.admitted; requests = books.requests; standing = books.standing; spare = books.spare - 1 }) wide
retired_kept books now job amount fit free wide log live same k there whole quiet e1 e2 e3 e4 =
    let there_here : IsTrue (is_live books.live job) = subst (λ (b : Books). IsTrue (is_live b.live job)) (sym same) there in
    let whole_here : amount ≡ capacity_at books.live job = subst (λ (b : Books). amount ≡ capacity_at b.live job) (sym same) whole in
    let quiet_here : is_requester books.standing job ≡ false = subst (λ (b : Books). is_requester b.standing job ≡ false) (sym same) quiet in
    rw (e1, e2, e3, e4, whole_here) (kept_retired books job fit k there_here quiet_here)

pub admitted_kept : (books now : Books) (job most fit wide : ℕ) (log : List Entry) (live : List Live) (admitted : List Admitted)
    → books ≡ now → IsKept books fit → is_live now.live job ≡ false → now.standing ≡ None → length books.live + 1 < 2 ^ 32 → length books.log + (books.spare + 1) ≤ wide
    → log ≡ books.log → live ≡ books.live ++ record { job = job; max = most; capacity = 0 } ∷ [] → admitted ≡ books.admitted ++ record { job = job; max = most; at = length books.log } ∷ []
    → IsKept (record { total = books.total; free = books.free; log = log; live = live; admitted = admitted; requests = books.requests; standing = books.standing; spare = books.spare + 1 }) wide
admitted_kept books now job most fit wide log live admitted same k away quiet few fits e1 e2 e3 =
    let away_here : is_live books.live job ≡ false = subst (λ (b : Books). is_live b.live job ≡ false) (sym same) away in
    let quiet_here : books.standing ≡ None = subst (λ (b : Books). b.standing ≡ None) (sym same) quiet in
    rw (e1, e2, e3) (kept_admitted books job most fit wide k away_here quiet_here few fits)
