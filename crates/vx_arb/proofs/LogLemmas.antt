-- What one entry more, or one admission more, makes of what the log says.
use Rattle.std.proofs.Common.{◌≡◌, ◌≢◌, ℕ, zero, suc, ◌<◌, ◌≤◌, Bool, true, false, cond, eqb, leb, ◌||◌, ◌&&◌, Option, Some, None, IsSome, IsSomeAnd, IfSome, List, [], ◌∷◌, ◌++◌, length, take, drop, slice_get, option_and_then, refl, sym, ◌∙◌, ap, subst, arith, length-append}
use Rattle.std.specs.List.{list_any, list_all}
use Rattle.std.proofs.lemmas.Bool.Decides.{nat_tests}
use Rattle.std.proofs.lemmas.List.{drop-append-le}
use Rattle.std.proofs.lemmas.List.Folds.{list_any-append}
use Rattle.vx_arb.specs.declared.entries.Entry.{Entry}
use Rattle.vx_arb.specs.declared.entries.Entry.TheVariants.{Grant, Shrink, Reclaim, Abort, Retire}
use Rattle.vx_arb.specs.declared.entries.AbortNote.{AbortNote}
use Rattle.vx_arb.specs.declared.entries.NoteCause.{NoteCause}
use Rattle.vx_arb.specs.declared.entries.NoteCause.TheVariants.{Total, Own}
use Rattle.vx_arb.specs.declared.entries.Look.{Look}
use Rattle.vx_arb.specs.declared.rows.Admitted.{Admitted}
use Rattle.vx_arb.specs.Log.{job_of, given, taken, given_to, taken_from, is_retirement}
use Rattle.vx_arb.specs.Unmet.{later, admission_of, max_of, IsUnmetBy, IsJust}

-- whether all admissions were made while the log had at most so many entries
abbrev pub all_by : List Admitted → ℕ → Bool
all_by admitted n = list_all (λ (a : Admitted). leb a.at n) admitted

-- admissions by one length of the log are admissions by a greater one
pub all_by_more : (admitted : List Admitted) (n m : ℕ) → n ≤ m → all_by admitted n ≡ true → all_by admitted m ≡ true
all_by_more [] n m le h = refl
all_by_more (first ∷ rest) n m le h =
    elim (leb first.at n) as (λ b. leb first.at n ≡ b → (b && all_by rest n) ≡ true → (leb first.at m && all_by rest m) ≡ true) [
      | true ↦ λ e all. let more : leb first.at m ≡ true = grind (arith, nat_tests) in rw more (all_by_more rest n m le all)
      | false ↦ λ e all. absurd (cc)
    ] refl h

-- a longer log has no more admissions than were made
pub admission_more : (admitted : List Admitted) (job n m : ℕ) → n ≤ m → all_by admitted n ≡ true → admission_of admitted job m ≡ admission_of admitted job n
admission_more [] job n m le h = refl
admission_more (first ∷ rest) job n m le h =
    elim (leb first.at n) as (λ b. leb first.at n ≡ b → (b && all_by rest n) ≡ true → later (admission_of rest job m) (cond (eqb first.job job && leb first.at m) (Some first) None) ≡ later (admission_of rest job n) (cond (eqb first.job job && b) (Some first) None)) [
      | true ↦ λ e all. let more : leb first.at m ≡ true = grind (arith, nat_tests) in
          rw more (ap (λ o. later o (cond (eqb first.job job && true) (Some first) None)) (admission_more rest job n m le all))
      | false ↦ λ e all. absurd (cc)
    ] refl h

later_by : (after before : Option Admitted) (n : ℕ) → IfSome after (λ a. a.at ≤ n) → IfSome before (λ a. a.at ≤ n) → IfSome (later after before) (λ a. a.at ≤ n)
later_by None before n h k = k
later_by (Some a) before n h k = h

-- what is found was admitted by then
pub admission_by : (admitted : List Admitted) (job n : ℕ) → IfSome (admission_of admitted job n) (λ a. a.at ≤ n)
admission_by [] job n = tt
admission_by (first ∷ rest) job n =
    later_by (admission_of rest job n) (cond (eqb first.job job && leb first.at n) (Some first) None) n (admission_by rest job n)
    (elim (eqb first.job job) as (λ b. IfSome (cond (b && leb first.at n) (Some first) None) (λ a. a.at ≤ n)) [
      | true ↦ elim (leb first.at n) as (λ t. leb first.at n ≡ t → IfSome (cond (true && t) (Some first) None) (λ a. a.at ≤ n))
          [ true ↦ λ e. grind (arith, nat_tests) | false ↦ λ e. tt ] refl
      | false ↦ tt
    ])

-- whose max an admission gives
abbrev pub live_since : List Entry → ℕ → Admitted → Option ℕ
live_since log job last = cond (list_any (is_retirement job) (drop last.at log)) None (Some last.max)

since_entry : (log : List Entry) (entry : Entry) (job : ℕ) (last : Admitted) → last.at ≤ length log → live_since (log ++ entry ∷ []) job last ≡ cond (is_retirement job entry) None (live_since log job last)
since_entry log entry job last le =
    let cut : drop last.at (log ++ entry ∷ []) ≡ drop last.at log ++ entry ∷ [] = drop-append-le last.at log (entry ∷ []) le in
    let any : list_any (is_retirement job) (drop last.at (log ++ entry ∷ [])) ≡ (list_any (is_retirement job) (drop last.at log) || (is_retirement job entry || false)) =
    ap (λ es. list_any (is_retirement job) es) cut ∙ list_any-append (is_retirement job) (drop last.at log) (entry ∷ []) in
    rw any (turned (list_any (is_retirement job) (drop last.at log)) (is_retirement job entry) last.max)
  where
    turned : (a b : Bool) (n : ℕ) → cond (a || (b || false)) None (Some n) ≡ cond b None (cond a None (Some n))
    turned true true n = refl
    turned true false n = refl
    turned false true n = refl
    turned false false n = refl

-- a job's life goes on after an entry, unless that ends it
pub max_entry : (admitted : List Admitted) (log : List Entry) (entry : Entry) (job : ℕ) → all_by admitted (length log) ≡ true → max_of admitted (log ++ entry ∷ []) job ≡ cond (is_retirement job entry) None (max_of admitted log job)
max_entry admitted log entry job h =
    let longer : length log ≤ length (log ++ entry ∷ []) = omega (arith, length-append log (entry ∷ [])) in
    let same : admission_of admitted job (length (log ++ entry ∷ [])) ≡ admission_of admitted job (length log) =
    admission_more admitted job (length log) (length (log ++ entry ∷ [])) longer h in
    ap (λ o. option_and_then (live_since (log ++ entry ∷ []) job) o) same
    ∙ cases (admission_of admitted job (length log)) (admission_by admitted job (length log))
  where
    cases : (o : Option Admitted) → IfSome o (λ a. a.at ≤ length log) → option_and_then (live_since (log ++ entry ∷ []) job) o ≡ cond (is_retirement job entry) None (option_and_then (live_since log job) o)
    cases None le = let none : Option ℕ = None in elim (is_retirement job entry) as (λ b. none ≡ cond b none none) [ true ↦ refl | false ↦ refl ]
    cases (Some last) le = since_entry log entry job last le

-- an admission more is found last
admission_pushed : (admitted : List Admitted) (a : Admitted) (job n : ℕ) → admission_of (admitted ++ a ∷ []) job n ≡ cond (eqb a.job job && leb a.at n) (Some a) (admission_of admitted job n)
admission_pushed [] a job n = refl
admission_pushed (first ∷ rest) a job n =
    ap (λ o. later o (cond (eqb first.job job && leb first.at n) (Some first) None)) (admission_pushed rest a job n)
    ∙ (elim (eqb a.job job && leb a.at n) as (λ b. later (cond b (Some a) (admission_of rest job n)) (cond (eqb first.job job && leb first.at n) (Some first) None) ≡ cond b (Some a) (later (admission_of rest job n) (cond (eqb first.job job && leb first.at n) (Some first) None)))
    [ true ↦ refl | false ↦ refl ])

-- what was before an admission doesn't know of it
pub max_before : (admitted : List Admitted) (a : Admitted) (log : List Entry) (job : ℕ) → length log < a.at → max_of (admitted ++ a ∷ []) log job ≡ max_of admitted log job
max_before admitted a log job lt =
    let late : leb a.at (length log) ≡ false = grind (arith, nat_tests) in
    let off : (eqb a.job job && leb a.at (length log)) ≡ false = ap (λ b. eqb a.job job && b) late ∙ (elim (eqb a.job job) as (λ b. (b && false) ≡ false) [ true ↦ refl | false ↦ refl ]) in
    ap (λ o. option_and_then (live_since log job) o) (admission_pushed admitted a job (length log) ∙ ap (λ b. cond b (Some a) (admission_of admitted job (length log))) off)

all_dropped : (es : List Entry) → drop (length es) es ≡ []
all_dropped [] = refl
all_dropped (x ∷ es) = all_dropped es

-- an admission now makes its job live
pub max_admitted : (admitted : List Admitted) (a : Admitted) (log : List Entry) (job : ℕ) → a.at ≡ length log → max_of (admitted ++ a ∷ []) log job ≡ cond (eqb a.job job) (Some a.max) (max_of admitted log job)
max_admitted admitted a log job e =
    let now : leb a.at (length log) ≡ true = grind (arith, nat_tests) in
    let on : (eqb a.job job && leb a.at (length log)) ≡ eqb a.job job = ap (λ b. eqb a.job job && b) now ∙ (elim (eqb a.job job) as (λ b. (b && true) ≡ b) [ true ↦ refl | false ↦ refl ]) in
    ap (λ o. option_and_then (live_since log job) o) (admission_pushed admitted a job (length log) ∙ ap (λ b. cond b (Some a) (admission_of admitted job (length log))) on)
    ∙ (elim (eqb a.job job) as (λ b. option_and_then (live_since log job) (cond b (Some a) (admission_of admitted job (length log))) ≡ cond b (Some a.max) (max_of admitted log job))
    [ true ↦ ended | false ↦ refl ])
  where
    none : drop a.at log ≡ []
    none = rw e (all_dropped log)

    ended : cond (list_any (is_retirement job) (drop a.at log)) None (Some a.max) ≡ Some a.max
    ended = rw none refl

-- what holds of each entry over the entries before it holds so with one entry more
pub each_entry : {X : Type 0} (P : List X → X → Type 0) (xs : List X) (last : X) → ((k : ℕ) → IfSome (slice_get xs k) (P (take k xs))) → P xs last → (k : ℕ) → IfSome (slice_get (xs ++ last ∷ []) k) (P (take k (xs ++ last ∷ [])))
each_entry P [] last h p zero = p
each_entry P [] last h p (suc k) = tt
each_entry P (x ∷ xs) last h p zero = h zero
each_entry P (x ∷ xs) last h p (suc k) = each_entry (λ before. P (x ∷ before)) xs last (λ k. h (suc k)) p k

-- what holds of each entry may be told otherwise, for entries before the end
pub each_other : {X : Type 0} (P Q : List X → X → Type 0) (xs : List X) → ((before : List X) (x : X) → length before < length xs → P before x → Q before x) → ((k : ℕ) → IfSome (slice_get xs k) (P (take k xs))) → (k : ℕ) → IfSome (slice_get xs k) (Q (take k xs))
each_other P Q [] turn h k = tt
each_other P Q (x ∷ xs) turn h zero = turn [] x (omega arith) (h zero)
each_other P Q (x ∷ xs) turn h (suc k) = each_other (λ before. P (x ∷ before)) (λ before. Q (x ∷ before)) xs (λ before y lt. turn (x ∷ before) y (omega arith)) (λ k. h (suc k)) k

some_same : (o p : Option ℕ) (P : ℕ → Type 0) → o ≡ p → IsSomeAnd o P → IsSomeAnd p P
some_same o p P e h = subst (λ o. IsSomeAnd o P) e h

is_same : (o p : Option ℕ) → o ≡ p → IsSome o → IsSome p
is_same o p e h = subst (λ (o : Option ℕ). IsSome o) e h

cause_same : (cause : NoteCause) (max other : ℕ → Option ℕ) (log : List Entry) (note : AbortNote) (looks : List Look) → ((job : ℕ) → max job ≡ other job) → IsUnmetBy cause max log note looks → IsUnmetBy cause other log note looks
cause_same Total max other log note looks e h = record {
  within = some_same (max note.by) (other note.by) _ (e note.by) h.within;
  lacking = h.lacking;
  emptied = λ job live. h.emptied job (is_same (other job) (max job) (sym (e job)) live);
  shrunk = h.shrunk;
  live = is_same (max note.job) (other note.job) (e note.job) h.live;
  largest = λ job live. h.largest job (is_same (other job) (max job) (sym (e job)) live);
}
cause_same Own max other log note looks e h = record {
  victim = h.victim;
  past = some_same (max note.by) (other note.by) _ (e note.by) h.past;
  emptied = h.emptied;
}

-- an abort stays unavoidable where the same jobs are live
pub just_same : (total : ℕ) (admitted more : List Admitted) (log : List Entry) (entry : Entry) → ((job : ℕ) → max_of admitted log job ≡ max_of more log job) → IsJust total admitted log entry → IsJust total more log entry
just_same total admitted more log (Grant job amount) e h = tt
just_same total admitted more log (Shrink job amount) e h = tt
just_same total admitted more log (Reclaim job amount) e h = tt
just_same total admitted more log (Retire job amount) e h = tt
just_same total admitted more log (Abort note amount looks) e h = record {
  free_was = h.free_was;
  had = h.had;
  single = h.single;
  counted = h.counted;
  cause = cause_same note.cause (max_of admitted log) (max_of more log) log note looks e h.cause;
}

-- an entry gives and takes at its own job alone
pub given_here : (entry : Entry) (job : ℕ) → job_of entry ≡ job → given_to job entry ≡ given entry
given_here entry job e = let same : eqb (job_of entry) job ≡ true = grind (arith, nat_tests) in rw same refl

pub taken_here : (entry : Entry) (job : ℕ) → job_of entry ≡ job → taken_from job entry ≡ taken entry
taken_here entry job e = let same : eqb (job_of entry) job ≡ true = grind (arith, nat_tests) in rw same refl

pub given_elsewhere : (entry : Entry) (job other : ℕ) → job_of entry ≡ job → other ≢ job → given_to other entry ≡ 0
given_elsewhere entry job other e ne = let apart : eqb (job_of entry) other ≡ false = grind (arith, nat_tests) in rw apart refl

pub taken_elsewhere : (entry : Entry) (job other : ℕ) → job_of entry ≡ job → other ≢ job → taken_from other entry ≡ 0
taken_elsewhere entry job other e ne = let apart : eqb (job_of entry) other ≡ false = grind (arith, nat_tests) in rw apart refl
