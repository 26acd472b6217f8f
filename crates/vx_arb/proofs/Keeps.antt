-- The books keep their rule through each change.
use Rattle.std.proofs.Common.{◌≡◌, ◌≢◌, ℕ, ◌+◌, ◌-◌, ◌^◌, ◌<◌, ◌≤◌, true, false, cond, eqb, leb, ◌&&◌, Option, Some, None, IfSome, IsTrue, unwrap_or, List, [], ◌∷◌, ◌++◌, length, refl, sym, ◌∙◌, ap, subst, arith, length-append}
use Rattle.std.specs.List.{sum_by, count_by}
use Rattle.std.proofs.lemmas.Bool.Decides.{nat_tests}
use Rattle.std.proofs.lemmas.List.Sums.{sum_by_push}
use Rattle.vx_arb.specs.declared.entries.Entry.{Entry}
use Rattle.vx_arb.specs.declared.entries.Entry.TheVariants.{Grant, Retire}
use Rattle.vx_arb.specs.declared.rows.Admitted.{Admitted}
use Rattle.vx_arb.specs.declared.rows.Live.{Live}
use Rattle.vx_arb.specs.declared.rows.Standing.{Standing}
use Rattle.vx_arb.specs.Log.{job_of, given, taken, given_to, taken_from, capacity_of}
use Rattle.vx_arb.specs.Unmet.{max_of, IsJust}
use Rattle.vx_arb.specs.Rows.{is_live, capacity_at, max_at, max_in, with_capacity, without}
use Rattle.vx_arb.specs.Books.{Books, IsBooks, IsStanding, after_admit, after_retire, is_requester}
use Rattle.vx_arb.specs.Keeping.{IsKept, MayTake, Writes}
use Rattle.vx_arb.proofs.RowLemmas.{capacity_set, capacity_others, max_set, length_set, count_set, sum_set, capacity_in_sum, gone, sum_without, count_without, capacity_kept, max_kept, live_kept, length_without, absent_capacity, absent_max, count_absent, capacity_pushed, max_pushed}
use Rattle.vx_arb.proofs.LogLemmas.{all_by, all_by_more, max_entry, max_before, max_admitted, each_entry, each_other, just_same, given_here, taken_here, given_elsewhere, taken_elsewhere}

-- two numbers are the same or not
by_job : (P : ℕ → Type 0) (job other : ℕ) → P job → (other ≢ job → P other) → P other
by_job P job other same apart =
    elim (eqb other job) as (λ b. eqb other job ≡ b → P other) [
      | true ↦ λ e. let is : job ≡ other = grind (arith, nat_tests) in subst P is same
      | false ↦ λ e. let ne : other ≢ job = grind (arith, nat_tests) in apart ne
    ] refl

-- how the sums over the log move with an entry
record Moves (log : List Entry) (entry : Entry) (job : ℕ) : Type 0 where
  given_all : sum_by given (log ++ entry ∷ []) ≡ sum_by given log + given entry
  taken_all : sum_by taken (log ++ entry ∷ []) ≡ sum_by taken log + taken entry
  given_job : sum_by (given_to job) (log ++ entry ∷ []) ≡ sum_by (given_to job) log + given entry
  taken_job : sum_by (taken_from job) (log ++ entry ∷ []) ≡ sum_by (taken_from job) log + taken entry
  given_other : (other : ℕ) → other ≢ job → sum_by (given_to other) (log ++ entry ∷ []) ≡ sum_by (given_to other) log
  taken_other : (other : ℕ) → other ≢ job → sum_by (taken_from other) (log ++ entry ∷ []) ≡ sum_by (taken_from other) log

moves_by : (log : List Entry) (entry : Entry) (job : ℕ) → job_of entry ≡ job → Moves log entry job
moves_by log entry job of = record {
  given_all = sum_by_push given log entry;
  taken_all = sum_by_push taken log entry;
  given_job = sum_by_push (given_to job) log entry ∙ ap (λ n. sum_by (given_to job) log + n) (given_here entry job of);
  taken_job = sum_by_push (taken_from job) log entry ∙ ap (λ n. sum_by (taken_from job) log + n) (taken_here entry job of);
  given_other = λ other ne. let none : given_to other entry ≡ 0 = given_elsewhere entry job other of ne in omega (arith, sum_by_push (given_to other) log entry, none);
  taken_other = λ other ne. let none : taken_from other entry ≡ 0 = taken_elsewhere entry job other of ne in omega (arith, sum_by_push (taken_from other) log entry, none);
}

-- the books after an entry that moves a live job's capacity
abbrev pub written : Books → ℕ → Entry → ℕ → ℕ → Option Standing → Books
written books job entry free capacity standing = record books {
  free = free;
  log = books.log ++ entry ∷ [];
  live = with_capacity books.live job capacity;
  standing = standing;
  spare = books.spare - 1;
}

pub rule_written : (books : Books) (job : ℕ) (entry : Entry) (free capacity : ℕ) (standing : Option Standing) → IsBooks books → Writes books job entry free capacity standing → IsBooks (written books job entry free capacity standing)
rule_written books job entry free capacity standing b w =
    let m : Moves books.log entry job = moves_by books.log entry job w.of in
    let size : length (with_capacity books.live job capacity) ≡ length books.live = length_set books.live job capacity in
    let held : capacity_at books.live job ≡ capacity_of books.log job = b.rows job in
    let part : capacity_at books.live job ≤ sum_by (λ (row : Live). row.capacity) books.live = capacity_in_sum books.live job in
    let sums : sum_by (λ (row : Live). row.capacity) (with_capacity books.live job capacity) + capacity_at books.live job ≡ sum_by (λ (row : Live). row.capacity) books.live + capacity = sum_set books.live job capacity w.there in
    let same_capacity : capacity_at (with_capacity books.live job capacity) job ≡ capacity = capacity_set books.live job capacity w.there in
    let longer : length (books.log ++ entry ∷ []) ≡ length books.log + 1 = omega (arith, length-append books.log (entry ∷ [])) in
    record {
      bounded = b.bounded;
      few = omega (arith, size, b.few);
      balance = omega (arith, m.given_all, m.taken_all, b.balance, b.covered_all, b.backed, w.moves_free);
      adds_up = omega (arith, sums, b.adds_up, w.moves, w.moves_free, part);
      rows = λ other. by_job (λ n. capacity_at (with_capacity books.live job capacity) n ≡ capacity_of (books.log ++ entry ∷ []) n) job other
          (omega (arith, same_capacity, m.given_job, m.taken_job, held, b.covered job, w.moves))
          (λ ne. omega (arith, capacity_others books.live job capacity other ne, m.given_other other ne, m.taken_other other ne, b.rows other));
      within = λ other. by_job (λ n. capacity_at (with_capacity books.live job capacity) n ≤ max_in (with_capacity books.live job capacity) n) job other
          (omega (arith, same_capacity, w.within, ap (λ (o : Option ℕ). unwrap_or o 0) (max_set books.live job capacity job)))
          (λ ne. omega (arith, capacity_others books.live job capacity other ne, b.within other, ap (λ (o : Option ℕ). unwrap_or o 0) (max_set books.live job capacity other)));
      covered = λ other. by_job (λ n. sum_by (taken_from n) (books.log ++ entry ∷ []) ≤ sum_by (given_to n) (books.log ++ entry ∷ [])) job other
          (omega (arith, m.given_job, m.taken_job, held, b.covered job, w.moves))
          (λ ne. omega (arith, m.given_other other ne, m.taken_other other ne, b.covered other));
      covered_all = omega (arith, m.given_all, m.taken_all, b.balance, b.covered_all, b.backed, b.adds_up, part, w.moves, w.moves_free);
      backed = omega (arith, m.given_all, m.taken_all, b.balance, b.covered_all, b.backed, w.moves_free);
      single = λ other. omega (arith, count_set (λ n. eqb n other) books.live job capacity, b.single other);
      lives = λ other. max_set books.live job capacity other ∙ b.lives other
          ∙ sym (max_entry books.admitted books.log entry other b.past ∙ ap (λ t. cond t None (max_of books.admitted books.log other)) (w.stays other));
      past = all_by_more books.admitted (length books.log) (length (books.log ++ entry ∷ [])) (omega (arith, longer)) b.past;
      just = each_entry (IsJust books.total books.admitted) books.log entry b.just w.just;
      stands = w.then_stands;
      room = omega (arith, size, w.seat);
    }

pub kept_written : (books : Books) (job : ℕ) (entry : Entry) (free capacity : ℕ) (standing : Option Standing) (fit : ℕ) → IsKept books fit → Writes books job entry free capacity standing → IsKept (written books job entry free capacity standing) fit
kept_written books job entry free capacity standing fit k w = record {
  rule = rule_written books job entry free capacity standing k.rule w;
  fits = omega (arith, length-append books.log (entry ∷ []), k.fits, w.seat);
}

-- an entry by which a job gives an amount
pub writes_taken : (books : Books) (job amount : ℕ) (entry : Entry) (standing : Option Standing) → IsBooks books → MayTake books job amount entry standing → Writes books job entry (books.free + amount) (capacity_at books.live job - amount) standing
writes_taken books job amount entry standing b t = record {
  there = t.there;
  of = t.takes.of;
  stays = t.takes.stays;
  moves_free = omega (arith, t.takes.nothing, t.takes.amount_is);
  moves = omega (arith, t.takes.nothing, t.takes.amount_is, t.had);
  within = omega (arith, b.within job);
  just = t.just;
  seat = t.seat;
  then_stands = t.then_stands;
}

-- an entry by which a job gets what is free
pub writes_given : (books : Books) (job amount : ℕ) → IsTrue (is_live books.live job) → amount ≤ books.free → capacity_at books.live job + amount ≤ max_in books.live job → length books.live < books.spare → Writes books job (Grant job amount) (books.free - amount) (capacity_at books.live job + amount) None
writes_given books job amount there free within seat = record {
  there = there;
  of = refl;
  stays = λ other. refl;
  moves_free = omega (arith, free);
  moves = omega arith;
  within = within;
  just = tt;
  seat = seat;
  then_stands = tt;
}

-- a job's end

retired_room : (live : List Live) (job spare : ℕ) (standing : Option Standing) → is_live live job ≡ true → is_requester standing job ≡ false → IfSome standing (IsStanding live spare) → IfSome standing (IsStanding (without live job) (spare - 1))
retired_room live job spare None there other h = tt
retired_room live job spare (Some s) there other h =
    let ne : s.job ≢ job = grind (arith, nat_tests) in
    record {
      there = live_kept live job s.job ne ∙ h.there;
      adds = omega (arith, h.adds, capacity_kept live job s.job ne);
      room = omega (arith, h.room, length_without live job there);
    }

pub rule_retired : (books : Books) (job : ℕ) → IsBooks books → is_live books.live job ≡ true → is_requester books.standing job ≡ false → IsBooks (after_retire books job)
rule_retired books job b there other_request =
    let amount : ℕ = capacity_at books.live job in
    let entry : Entry = Retire job (capacity_at books.live job) in
    let m : Moves books.log (Retire job (capacity_at books.live job)) job = moves_by books.log (Retire job (capacity_at books.live job)) job refl in
    let size : length (without books.live job) + 1 ≡ length books.live = length_without books.live job there in
    let held : capacity_at books.live job ≡ capacity_of books.log job = b.rows job in
    let part : capacity_at books.live job ≤ sum_by (λ (row : Live). row.capacity) books.live = capacity_in_sum books.live job in
    let sums : sum_by (λ (row : Live). row.capacity) (without books.live job) + capacity_at books.live job ≡ sum_by (λ (row : Live). row.capacity) books.live = sum_without books.live job there in
    let away : is_live (without books.live job) job ≡ false = gone books.live job there (b.single job) in
    let none : capacity_at (without books.live job) job ≡ 0 = absent_capacity (without books.live job) job away in
    let longer : length (books.log ++ Retire job (capacity_at books.live job) ∷ []) ≡ length books.log + 1 = omega (arith, length-append books.log (Retire job (capacity_at books.live job) ∷ [])) in
    record {
      bounded = b.bounded;
      few = omega (arith, size, b.few);
      balance = omega (arith, m.given_all, m.taken_all, b.balance, b.covered_all, b.backed);
      adds_up = omega (arith, sums, b.adds_up);
      rows = λ other. by_job (λ n. capacity_at (without books.live job) n ≡ capacity_of (books.log ++ Retire job (capacity_at books.live job) ∷ []) n) job other
          (omega (arith, none, m.given_job, m.taken_job, held, b.covered job))
          (λ ne. omega (arith, capacity_kept books.live job other ne, m.given_other other ne, m.taken_other other ne, b.rows other));
      within = λ other. by_job (λ n. capacity_at (without books.live job) n ≤ max_in (without books.live job) n) job other
          (omega (arith, none))
          (λ ne. omega (arith, capacity_kept books.live job other ne, b.within other, ap (λ (o : Option ℕ). unwrap_or o 0) (max_kept books.live job other ne)));
      covered = λ other. by_job (λ n. sum_by (taken_from n) (books.log ++ Retire job (capacity_at books.live job) ∷ []) ≤ sum_by (given_to n) (books.log ++ Retire job (capacity_at books.live job) ∷ [])) job other
          (omega (arith, m.given_job, m.taken_job, held, b.covered job))
          (λ ne. omega (arith, m.given_other other ne, m.taken_other other ne, b.covered other));
      covered_all = omega (arith, m.given_all, m.taken_all, b.balance, b.covered_all, b.backed, b.adds_up, part);
      backed = omega (arith, m.given_all, m.taken_all, b.balance, b.covered_all, b.backed);
      single = λ other. omega (arith, count_without (λ n. eqb n other) books.live job there, b.single other);
      lives = λ other. by_job (λ n. max_at (without books.live job) n ≡ max_of books.admitted (books.log ++ Retire job (capacity_at books.live job) ∷ []) n) job other
          (let own : eqb job job ≡ true = grind (arith, nat_tests) in
          absent_max (without books.live job) job away ∙ sym (max_entry books.admitted books.log (Retire job (capacity_at books.live job)) job b.past ∙ ap (λ t. cond t None (max_of books.admitted books.log job)) own))
          (λ ne. let apart : eqb job other ≡ false = grind (arith, nat_tests) in
          max_kept books.live job other ne ∙ b.lives other ∙ sym (max_entry books.admitted books.log (Retire job (capacity_at books.live job)) other b.past ∙ ap (λ t. cond t None (max_of books.admitted books.log other)) apart));
      past = all_by_more books.admitted (length books.log) (length (books.log ++ Retire job (capacity_at books.live job) ∷ [])) (omega (arith, longer)) b.past;
      just = each_entry (IsJust books.total books.admitted) books.log (Retire job (capacity_at books.live job)) b.just tt;
      stands = retired_room books.live job books.spare books.standing there other_request b.stands;
      room = omega (arith, size, b.room);
    }

some_row : (live : List Live) (job : ℕ) → is_live live job ≡ true → 0 < length live
some_row [] job h = absurd (cc)
some_row (row ∷ rest) job h = omega arith

pub kept_retired : (books : Books) (job fit : ℕ) → IsKept books fit → is_live books.live job ≡ true → is_requester books.standing job ≡ false → IsKept (after_retire books job) fit
kept_retired books job fit k there other = record {
  rule = rule_retired books job k.rule there other;
  fits = omega (arith, length-append books.log (Retire job (capacity_at books.live job) ∷ []), k.fits, k.rule.room, some_row books.live job there);
}

-- an admission

all_pushed : (admitted : List Admitted) (a : Admitted) (n : ℕ) → leb a.at n ≡ true → all_by admitted n ≡ true → all_by (admitted ++ a ∷ []) n ≡ true
all_pushed [] a n now h = ap (λ b. b && true) now
all_pushed (first ∷ rest) a n now h =
    elim (leb first.at n) as (λ b. (b && all_by rest n) ≡ true → (b && all_by (rest ++ a ∷ []) n) ≡ true)
    [ true ↦ λ all. all_pushed rest a n now all | false ↦ λ all. absurd (cc) ] h

pub rule_admitted : (books : Books) (job most : ℕ) → IsBooks books → is_live books.live job ≡ false → books.standing ≡ None → length books.live + 1 < 2 ^ 32 → IsBooks (after_admit books job most)
rule_admitted books job most b away quiet few =
    let row : Live = record { job = job; max = most; capacity = 0 } in
    let added : Admitted = record { job = job; max = most; at = length books.log } in
    let size : length (books.live ++ record { job = job; max = most; capacity = 0 } ∷ []) ≡ length books.live + 1 = omega (arith, length-append books.live (record { job = job; max = most; capacity = 0 } ∷ [])) in
    record {
      bounded = b.bounded;
      few = omega (arith, size, few);
      balance = b.balance;
      adds_up = omega (arith, sum_by_push (λ (row : Live). row.capacity) books.live (record { job = job; max = most; capacity = 0 }), b.adds_up);
      rows = λ other. capacity_pushed books.live job most other ∙ b.rows other;
      within = λ other. within_pushed other;
      covered = b.covered;
      covered_all = b.covered_all;
      backed = b.backed;
      single = λ other. single_pushed other;
      lives = λ other. max_pushed books.live job most other away
          ∙ ap (λ (m : Option ℕ). cond (eqb job other) (Some most) m) (b.lives other)
          ∙ sym (max_admitted books.admitted (record { job = job; max = most; at = length books.log }) books.log other refl);
      past = all_pushed books.admitted (record { job = job; max = most; at = length books.log }) (length books.log) (grind (arith, nat_tests)) b.past;
      just = each_other (IsJust books.total books.admitted) (IsJust books.total (books.admitted ++ record { job = job; max = most; at = length books.log } ∷ [])) books.log
          (λ before entry lt h. just_same books.total books.admitted (books.admitted ++ record { job = job; max = most; at = length books.log } ∷ []) before entry
          (λ other. sym (max_before books.admitted (record { job = job; max = most; at = length books.log }) before other lt)) h) b.just;
      stands = subst (λ (s : Option Standing). IfSome s (IsStanding (books.live ++ record { job = job; max = most; capacity = 0 } ∷ []) (books.spare + 1))) (sym quiet) tt;
      room = omega (arith, size, b.room);
    }
  where
    within_pushed : (other : ℕ) → capacity_at (books.live ++ record { job = job; max = most; capacity = 0 } ∷ []) other ≤ max_in (books.live ++ record { job = job; max = most; capacity = 0 } ∷ []) other
    within_pushed other =
        let max : max_in (books.live ++ record { job = job; max = most; capacity = 0 } ∷ []) other ≡ unwrap_or (cond (eqb job other) (Some most) (max_at books.live other)) 0 = ap (λ (o : Option ℕ). unwrap_or o 0) (max_pushed books.live job most other away) in
        elim (eqb job other) as (λ t. eqb job other ≡ t → max_in (books.live ++ record { job = job; max = most; capacity = 0 } ∷ []) other ≡ unwrap_or (cond t (Some most) (max_at books.live other)) 0 → capacity_at (books.live ++ record { job = job; max = most; capacity = 0 } ∷ []) other ≤ max_in (books.live ++ record { job = job; max = most; capacity = 0 } ∷ []) other) [
          | true ↦ λ e m. let same : job ≡ other = grind (arith, nat_tests) in
              let none : capacity_at books.live other ≡ 0 = ap (λ n. capacity_at books.live n) (sym same) ∙ absent_capacity books.live job away in
              omega (arith, capacity_pushed books.live job most other, none)
          | false ↦ λ e m. omega (arith, capacity_pushed books.live job most other, b.within other, m)
        ] refl max

    single_pushed : (other : ℕ) → count_by (λ (row : Live). eqb row.job other) (books.live ++ record { job = job; max = most; capacity = 0 } ∷ []) ≤ 1
    single_pushed other =
        let f : Live → ℕ = λ row. cond (eqb row.job other) 1 0 in
        let sum : sum_by f (books.live ++ record { job = job; max = most; capacity = 0 } ∷ []) ≡ sum_by f books.live + cond (eqb job other) 1 0 = sum_by_push f books.live (record { job = job; max = most; capacity = 0 }) in
        elim (eqb job other) as (λ t. eqb job other ≡ t → sum_by f (books.live ++ record { job = job; max = most; capacity = 0 } ∷ []) ≡ sum_by f books.live + cond t 1 0 → sum_by f (books.live ++ record { job = job; max = most; capacity = 0 } ∷ []) ≤ 1) [
          | true ↦ λ e s. let same : job ≡ other = grind (arith, nat_tests) in
              omega (arith, s, count_absent books.live job away, ap {B = ℕ} (λ n. count_by (λ (row : Live). eqb row.job n) books.live) same)
          | false ↦ λ e s. omega (arith, s, b.single other)
        ] refl sum

pub kept_admitted : (books : Books) (job most fit wide : ℕ) → IsKept books fit → is_live books.live job ≡ false → books.standing ≡ None → length books.live + 1 < 2 ^ 32 → length books.log + (books.spare + 1) ≤ wide → IsKept (after_admit books job most) wide
kept_admitted books job most fit wide k away quiet few fits = record {
  rule = rule_admitted books job most k.rule away quiet few;
  fits = fits;
}
