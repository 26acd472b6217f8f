-- Where a job's row stands, and what changes with its capacity, with its end, and with another row.
use Rattle.std.proofs.Common.{◌≡◌, ◌≢◌, ℕ, suc, ◌+◌, ◌<◌, ◌≤◌, Bool, true, false, not, cond, eqb, ltb, ◌||◌, Option, Some, None, List, [], ◌∷◌, ◌++◌, length, get_or, set, refl, sym, ◌∙◌, ap, arith}
use Rattle.std.proofs.lemmas.Bool.Decides.{nat_tests}
use Rattle.std.specs.List.{position_or_len, position, sum_by, count_by, remove}
use Rattle.std.proofs.lemmas.List.Sums.{sum_by-cons}
use Rattle.vx_arb.specs.declared.rows.Live.{Live}
use Rattle.vx_arb.specs.Rows.{is_live, capacity_at, max_at, with_capacity, without}

-- a number that equals one of two that differ isn't the other
pub differs : (a job other : ℕ) → eqb a job ≡ true → other ≢ job → eqb a other ≡ false
differs a job other e h = grind (arith, nat_tests)

-- the place of a job's first row, or the number of rows
abbrev pub place : List Live → ℕ → ℕ
place live job = position_or_len (λ (row : Live). eqb row.job job) live

pub place_found : (live : List Live) (job i : ℕ) → position (λ (row : Live). eqb row.job job) live ≡ Some i → (i ≡ place live job) × (place live job < length live)
place_found live job i h =
    elim (ltb (place live job) (length live)) as (λ b. ltb (place live job) (length live) ≡ b → cond b (Some (place live job)) None ≡ Some i → (i ≡ place live job) × (place live job < length live)) [
      | true ↦ λ t e. (let same : i ≡ place live job = cc in same, grind (arith, nat_tests))
      | false ↦ λ t e. absurd (cc)
    ] refl h

pub place_missing : (live : List Live) (job : ℕ) → position (λ (row : Live). eqb row.job job) live ≡ None → length live ≤ place live job
place_missing live job h =
    elim (ltb (place live job) (length live)) as (λ b. ltb (place live job) (length live) ≡ b → cond b (Some (place live job)) None ≡ None → length live ≤ place live job) [
      | true ↦ λ t e. absurd (cc)
      | false ↦ λ t e. grind (arith, nat_tests)
    ] refl h

first_capacity : (live : List Live) (job : ℕ) (d : Live) → place live job < length live → (get_or live (place live job) d).capacity ≡ capacity_at live job
first_capacity [] job d h = absurd (omega arith)
first_capacity (row ∷ rest) job d h =
    elim (eqb row.job job) as (λ b. cond (not b) (1 + place rest job) 0 < length (row ∷ rest) → (get_or (row ∷ rest) (cond (not b) (1 + place rest job) 0) d).capacity ≡ cond b row.capacity (capacity_at rest job)) [
      | true ↦ λ _. refl
      | false ↦ λ lt. let e : 1 + place rest job ≡ suc (place rest job) = omega arith in rw e (first_capacity rest job d (omega arith))
    ] h

first_max : (live : List Live) (job : ℕ) (d : Live) → place live job < length live → Some ((get_or live (place live job) d).max) ≡ max_at live job
first_max [] job d h = absurd (omega arith)
first_max (row ∷ rest) job d h =
    elim (eqb row.job job) as (λ b. cond (not b) (1 + place rest job) 0 < length (row ∷ rest) → Some ((get_or (row ∷ rest) (cond (not b) (1 + place rest job) 0) d).max) ≡ cond b (Some row.max) (max_at rest job)) [
      | true ↦ λ _. refl
      | false ↦ λ lt. let e : 1 + place rest job ≡ suc (place rest job) = omega arith in rw e (first_max rest job d (omega arith))
    ] h

first_set : (live : List Live) (job capacity : ℕ) (d : Live) → place live job < length live → set live (place live job) (record { job = (get_or live (place live job) d).job; max = (get_or live (place live job) d).max; capacity = capacity }) ≡ with_capacity live job capacity
first_set [] job capacity d h = absurd (omega arith)
first_set (row ∷ rest) job capacity d h =
    elim (eqb row.job job) as (λ b. cond (not b) (1 + place rest job) 0 < length (row ∷ rest) → set (row ∷ rest) (cond (not b) (1 + place rest job) 0) (record { job = (get_or (row ∷ rest) (cond (not b) (1 + place rest job) 0) d).job; max = (get_or (row ∷ rest) (cond (not b) (1 + place rest job) 0) d).max; capacity = capacity }) ≡ cond b (record row { capacity = capacity } ∷ rest) (row ∷ with_capacity rest job capacity)) [
      | true ↦ λ _. refl
      | false ↦ λ lt. let e : 1 + place rest job ≡ suc (place rest job) = omega arith in rw e (ap (λ rows. row ∷ rows) (first_set rest job capacity d (omega arith)))
    ] h

first_removed : (live : List Live) (job : ℕ) → place live job < length live → remove live (place live job) ≡ without live job
first_removed [] job h = absurd (omega arith)
first_removed (row ∷ rest) job h =
    elim (eqb row.job job) as (λ b. cond (not b) (1 + place rest job) 0 < length (row ∷ rest) → remove (row ∷ rest) (cond (not b) (1 + place rest job) 0) ≡ cond b rest (row ∷ without rest job)) [
      | true ↦ λ _. refl
      | false ↦ λ lt. let e : 1 + place rest job ≡ suc (place rest job) = omega arith in rw e (ap (λ rows. row ∷ rows) (first_removed rest job (omega arith)))
    ] h

pub capacity_found : (live : List Live) (job i : ℕ) (d : Live) → position (λ (row : Live). eqb row.job job) live ≡ Some i → (get_or live i d).capacity ≡ capacity_at live job
capacity_found live job i d h = let f = place_found live job i h in rw f.0 (first_capacity live job d f.1)

pub max_found : (live : List Live) (job i : ℕ) (d : Live) → position (λ (row : Live). eqb row.job job) live ≡ Some i → Some ((get_or live i d).max) ≡ max_at live job
max_found live job i d h = let f = place_found live job i h in rw f.0 (first_max live job d f.1)

pub set_found : (live : List Live) (job capacity i : ℕ) (d : Live) → position (λ (row : Live). eqb row.job job) live ≡ Some i → set live i (record { job = (get_or live i d).job; max = (get_or live i d).max; capacity = capacity }) ≡ with_capacity live job capacity
set_found live job capacity i d h = let f = place_found live job i h in rw f.0 (first_set live job capacity d f.1)

-- the same, for a row that was read there
pub set_read : (live : List Live) (job capacity i : ℕ) (row : Live) → row ≡ get_or live i row → position (λ (row : Live). eqb row.job job) live ≡ Some i → set live i (record { job = row.job; max = row.max; capacity = capacity }) ≡ with_capacity live job capacity
set_read live job capacity i row e h = ap (λ (r : Live). set live i (record { job = r.job; max = r.max; capacity = capacity })) e ∙ set_found live job capacity i row h

pub removed_found : (live : List Live) (job i : ℕ) → position (λ (row : Live). eqb row.job job) live ≡ Some i → remove live i ≡ without live job
removed_found live job i h = let f = place_found live job i h in rw f.0 (first_removed live job f.1)

absent_from : (live : List Live) (job : ℕ) → length live ≤ place live job → is_live live job ≡ false
absent_from [] job h = refl
absent_from (row ∷ rest) job h =
    elim (eqb row.job job) as (λ b. length (row ∷ rest) ≤ cond (not b) (1 + place rest job) 0 → (b || is_live rest job) ≡ false) [
      | true ↦ λ le. absurd (omega arith)
      | false ↦ λ le. absent_from rest job (omega arith)
    ] h

pub absent : (live : List Live) (job : ℕ) → position (λ (row : Live). eqb row.job job) live ≡ None → is_live live job ≡ false
absent live job h = absent_from live job (place_missing live job h)

pub absent_capacity : (live : List Live) (job : ℕ) → is_live live job ≡ false → capacity_at live job ≡ 0
absent_capacity [] job h = refl
absent_capacity (row ∷ rest) job h =
    elim (eqb row.job job) as (λ b. (b || is_live rest job) ≡ false → cond b row.capacity (capacity_at rest job) ≡ 0)
    [ true ↦ λ e. absurd (cc) | false ↦ λ e. absent_capacity rest job e ] h

pub absent_max : (live : List Live) (job : ℕ) → is_live live job ≡ false → max_at live job ≡ None
absent_max [] job h = refl
absent_max (row ∷ rest) job h =
    elim (eqb row.job job) as (λ b. (b || is_live rest job) ≡ false → cond b (Some row.max) (max_at rest job) ≡ None)
    [ true ↦ λ e. absurd (cc) | false ↦ λ e. absent_max rest job e ] h

pub absent_set : (live : List Live) (job capacity : ℕ) → is_live live job ≡ false → with_capacity live job capacity ≡ live
absent_set [] job capacity h = refl
absent_set (row ∷ rest) job capacity h =
    elim (eqb row.job job) as (λ b. (b || is_live rest job) ≡ false → cond b (record row { capacity = capacity } ∷ rest) (row ∷ with_capacity rest job capacity) ≡ row ∷ rest)
    [ true ↦ λ e. absurd (cc) | false ↦ λ e. ap (λ rows. row ∷ rows) (absent_set rest job capacity e) ] h

pub absent_without : (live : List Live) (job : ℕ) → is_live live job ≡ false → without live job ≡ live
absent_without [] job h = refl
absent_without (row ∷ rest) job h =
    elim (eqb row.job job) as (λ b. (b || is_live rest job) ≡ false → cond b rest (row ∷ without rest job) ≡ row ∷ rest)
    [ true ↦ λ e. absurd (cc) | false ↦ λ e. ap (λ rows. row ∷ rows) (absent_without rest job e) ] h

-- with another capacity in a job's row

pub capacity_set : (live : List Live) (job capacity : ℕ) → is_live live job ≡ true → capacity_at (with_capacity live job capacity) job ≡ capacity
capacity_set [] job capacity h = absurd (cc)
capacity_set (row ∷ rest) job capacity h =
    elim (eqb row.job job) as (λ b. eqb row.job job ≡ b → (b || is_live rest job) ≡ true → capacity_at (cond b (record row { capacity = capacity } ∷ rest) (row ∷ with_capacity rest job capacity)) job ≡ capacity)
    [ true ↦ λ e there. rw e refl | false ↦ λ e there. rw e (capacity_set rest job capacity there) ] refl h

pub capacity_others : (live : List Live) (job capacity other : ℕ) → other ≢ job → capacity_at (with_capacity live job capacity) other ≡ capacity_at live other
capacity_others [] job capacity other h = refl
capacity_others (row ∷ rest) job capacity other h =
    elim (eqb row.job job) as (λ b. eqb row.job job ≡ b → capacity_at (cond b (record row { capacity = capacity } ∷ rest) (row ∷ with_capacity rest job capacity)) other ≡ cond (eqb row.job other) row.capacity (capacity_at rest other)) [
      | true ↦ λ e. let no : eqb row.job other ≡ false = differs row.job job other e h in rw no refl
      | false ↦ λ e. ap (λ n. cond (eqb row.job other) row.capacity n) (capacity_others rest job capacity other h)
    ] refl

pub max_set : (live : List Live) (job capacity other : ℕ) → max_at (with_capacity live job capacity) other ≡ max_at live other
max_set [] job capacity other = refl
max_set (row ∷ rest) job capacity other =
    elim (eqb row.job job) as (λ b. max_at (cond b (record row { capacity = capacity } ∷ rest) (row ∷ with_capacity rest job capacity)) other ≡ cond (eqb row.job other) (Some row.max) (max_at rest other))
    [ true ↦ refl | false ↦ ap (λ n. cond (eqb row.job other) (Some row.max) n) (max_set rest job capacity other) ]

pub live_set : (live : List Live) (job capacity other : ℕ) → is_live (with_capacity live job capacity) other ≡ is_live live other
live_set [] job capacity other = refl
live_set (row ∷ rest) job capacity other =
    elim (eqb row.job job) as (λ b. is_live (cond b (record row { capacity = capacity } ∷ rest) (row ∷ with_capacity rest job capacity)) other ≡ (eqb row.job other || is_live rest other))
    [ true ↦ refl | false ↦ ap (λ b. eqb row.job other || b) (live_set rest job capacity other) ]

pub length_set : (live : List Live) (job capacity : ℕ) → length (with_capacity live job capacity) ≡ length live
length_set [] job capacity = refl
length_set (row ∷ rest) job capacity =
    elim (eqb row.job job) as (λ b. length (cond b (record row { capacity = capacity } ∷ rest) (row ∷ with_capacity rest job capacity)) ≡ length (row ∷ rest))
    [ true ↦ refl | false ↦ omega (arith, length_set rest job capacity) ]

pub count_set : (q : ℕ → Bool) (live : List Live) (job capacity : ℕ) → count_by (λ (row : Live). q row.job) (with_capacity live job capacity) ≡ count_by (λ (row : Live). q row.job) live
count_set q [] job capacity = refl
count_set q (row ∷ rest) job capacity =
    let f : Live → ℕ = λ row. cond (q row.job) 1 0 in
    elim (eqb row.job job) as (λ b. sum_by f (cond b (record row { capacity = capacity } ∷ rest) (row ∷ with_capacity rest job capacity)) ≡ sum_by f (row ∷ rest)) [
      | true ↦ sum_by-cons f (record row { capacity = capacity }) rest ∙ sym (sum_by-cons f row rest)
      | false ↦ sum_by-cons f row (with_capacity rest job capacity) ∙ ap (λ n. f row + n) (count_set q rest job capacity) ∙ sym (sum_by-cons f row rest)
    ]

pub sum_set : (live : List Live) (job capacity : ℕ) → is_live live job ≡ true → sum_by (λ (row : Live). row.capacity) (with_capacity live job capacity) + capacity_at live job ≡ sum_by (λ (row : Live). row.capacity) live + capacity
sum_set [] job capacity h = absurd (cc)
sum_set (row ∷ rest) job capacity h =
    let f : Live → ℕ = λ row. row.capacity in
    elim (eqb row.job job) as (λ b. (b || is_live rest job) ≡ true → sum_by f (cond b (record row { capacity = capacity } ∷ rest) (row ∷ with_capacity rest job capacity)) + cond b row.capacity (capacity_at rest job) ≡ sum_by f (row ∷ rest) + capacity) [
      | true ↦ λ there. omega (arith, sum_by-cons f (record row { capacity = capacity }) rest, sum_by-cons f row rest)
      | false ↦ λ there. omega (arith, sum_by-cons f row (with_capacity rest job capacity), sum_by-cons f row rest, sum_set rest job capacity there)
    ] h

-- a job's capacity is part of the sum
pub capacity_in_sum : (live : List Live) (job : ℕ) → capacity_at live job ≤ sum_by (λ (row : Live). row.capacity) live
capacity_in_sum [] job = omega arith
capacity_in_sum (row ∷ rest) job =
    let f : Live → ℕ = λ row. row.capacity in
    elim (eqb row.job job) as (λ b. cond b row.capacity (capacity_at rest job) ≤ sum_by f (row ∷ rest))
    [ true ↦ omega (arith, sum_by-cons f row rest) | false ↦ omega (arith, sum_by-cons f row rest, capacity_in_sum rest job) ]

-- without a job's row

pub absent_count : (live : List Live) (job : ℕ) → count_by (λ (row : Live). eqb row.job job) live ≡ 0 → is_live live job ≡ false
absent_count [] job h = refl
absent_count (row ∷ rest) job h =
    let f : Live → ℕ = λ row. cond (eqb row.job job) 1 0 in
    elim (eqb row.job job) as (λ b. eqb row.job job ≡ b → cond b 1 0 + sum_by f rest ≡ 0 → (b || is_live rest job) ≡ false)
    [ true ↦ λ e z. absurd (omega arith) | false ↦ λ e z. absent_count rest job (omega arith) ] refl (sym (sum_by-cons f row rest) ∙ h)

pub count_absent : (live : List Live) (job : ℕ) → is_live live job ≡ false → count_by (λ (row : Live). eqb row.job job) live ≡ 0
count_absent [] job h = refl
count_absent (row ∷ rest) job h =
    let f : Live → ℕ = λ row. cond (eqb row.job job) 1 0 in
    sum_by-cons f row rest ∙ (elim (eqb row.job job) as (λ b. (b || is_live rest job) ≡ false → cond b 1 0 + sum_by f rest ≡ 0)
    [ true ↦ λ e. absurd (cc) | false ↦ λ e. omega (arith, count_absent rest job e) ] h)

pub count_without : (q : ℕ → Bool) (live : List Live) (job : ℕ) → is_live live job ≡ true → count_by (λ (row : Live). q row.job) (without live job) + cond (q job) 1 0 ≡ count_by (λ (row : Live). q row.job) live
count_without q [] job h = absurd (cc)
count_without q (row ∷ rest) job h =
    let f : Live → ℕ = λ row. cond (q row.job) 1 0 in
    elim (eqb row.job job) as (λ b. eqb row.job job ≡ b → (b || is_live rest job) ≡ true → sum_by f (cond b rest (row ∷ without rest job)) + cond (q job) 1 0 ≡ sum_by f (row ∷ rest)) [
      | true ↦ λ e there. let same : row.job ≡ job = grind (arith, nat_tests) in omega (arith, sum_by-cons f row rest, ap {B = ℕ} (λ n. cond (q n) 1 0) same)
      | false ↦ λ e there. omega (arith, sum_by-cons f row (without rest job), sum_by-cons f row rest, count_without q rest job there)
    ] refl h

pub sum_without : (live : List Live) (job : ℕ) → is_live live job ≡ true → sum_by (λ (row : Live). row.capacity) (without live job) + capacity_at live job ≡ sum_by (λ (row : Live). row.capacity) live
sum_without [] job h = absurd (cc)
sum_without (row ∷ rest) job h =
    let f : Live → ℕ = λ row. row.capacity in
    elim (eqb row.job job) as (λ b. (b || is_live rest job) ≡ true → sum_by f (cond b rest (row ∷ without rest job)) + cond b row.capacity (capacity_at rest job) ≡ sum_by f (row ∷ rest)) [
      | true ↦ λ there. omega (arith, sum_by-cons f row rest)
      | false ↦ λ there. omega (arith, sum_by-cons f row (without rest job), sum_by-cons f row rest, sum_without rest job there)
    ] h

pub capacity_kept : (live : List Live) (job other : ℕ) → other ≢ job → capacity_at (without live job) other ≡ capacity_at live other
capacity_kept [] job other h = refl
capacity_kept (row ∷ rest) job other h =
    elim (eqb row.job job) as (λ b. eqb row.job job ≡ b → capacity_at (cond b rest (row ∷ without rest job)) other ≡ cond (eqb row.job other) row.capacity (capacity_at rest other)) [
      | true ↦ λ e. let no : eqb row.job other ≡ false = differs row.job job other e h in rw no refl
      | false ↦ λ e. ap (λ n. cond (eqb row.job other) row.capacity n) (capacity_kept rest job other h)
    ] refl

pub max_kept : (live : List Live) (job other : ℕ) → other ≢ job → max_at (without live job) other ≡ max_at live other
max_kept [] job other h = refl
max_kept (row ∷ rest) job other h =
    elim (eqb row.job job) as (λ b. eqb row.job job ≡ b → max_at (cond b rest (row ∷ without rest job)) other ≡ cond (eqb row.job other) (Some row.max) (max_at rest other)) [
      | true ↦ λ e. let no : eqb row.job other ≡ false = differs row.job job other e h in rw no refl
      | false ↦ λ e. ap (λ n. cond (eqb row.job other) (Some row.max) n) (max_kept rest job other h)
    ] refl

pub live_kept : (live : List Live) (job other : ℕ) → other ≢ job → is_live (without live job) other ≡ is_live live other
live_kept [] job other h = refl
live_kept (row ∷ rest) job other h =
    elim (eqb row.job job) as (λ b. eqb row.job job ≡ b → is_live (cond b rest (row ∷ without rest job)) other ≡ (eqb row.job other || is_live rest other)) [
      | true ↦ λ e. let no : eqb row.job other ≡ false = differs row.job job other e h in rw no refl
      | false ↦ λ e. ap (λ b. eqb row.job other || b) (live_kept rest job other h)
    ] refl

-- where a job has one row at most, it isn't live without it
pub gone : (live : List Live) (job : ℕ) → is_live live job ≡ true → count_by (λ (row : Live). eqb row.job job) live ≤ 1 → is_live (without live job) job ≡ false
gone live job there single =
    let one : eqb job job ≡ true = grind (arith, nat_tests) in
    let fall : count_by (λ (row : Live). eqb row.job job) (without live job) + cond (eqb job job) 1 0 ≡ count_by (λ (row : Live). eqb row.job job) live = count_without (λ n. eqb n job) live job there in
    let less : count_by (λ (row : Live). eqb row.job job) (without live job) + 1 ≡ count_by (λ (row : Live). eqb row.job job) live = rw one at fall in
    absent_count (without live job) job (omega arith)

pub length_without : (live : List Live) (job : ℕ) → is_live live job ≡ true → length (without live job) + 1 ≡ length live
length_without [] job h = absurd (cc)
length_without (row ∷ rest) job h =
    elim (eqb row.job job) as (λ b. (b || is_live rest job) ≡ true → length (cond b rest (row ∷ without rest job)) + 1 ≡ length (row ∷ rest))
    [ true ↦ λ there. omega arith | false ↦ λ there. omega (arith, length_without rest job there) ] h

-- with a row of no capacity more

pub capacity_pushed : (live : List Live) (job most other : ℕ) → capacity_at (live ++ record { job = job; max = most; capacity = 0 } ∷ []) other ≡ capacity_at live other
capacity_pushed [] job most other = let zero : ℕ = 0 in elim (eqb job other) as (λ b. cond b zero zero ≡ zero) [ true ↦ refl | false ↦ refl ]
capacity_pushed (row ∷ rest) job most other = ap (λ n. cond (eqb row.job other) row.capacity n) (capacity_pushed rest job most other)

-- of two tests for numbers that differ the order doesn't matter
swapped : (a : ℕ) (x : ℕ) (job : ℕ) (y : ℕ) (other : ℕ) (m : Option ℕ) → eqb a job ≡ false → cond (eqb a other) (Some x) (cond (eqb job other) (Some y) m) ≡ cond (eqb job other) (Some y) (cond (eqb a other) (Some x) m)
swapped a x job y other m e =
    elim (eqb a other) as (λ b. eqb a other ≡ b → cond b (Some x) (cond (eqb job other) (Some y) m) ≡ cond (eqb job other) (Some y) (cond b (Some x) m))
    [ true ↦ λ same. let apart : eqb job other ≡ false = grind (arith, nat_tests) in rw apart refl | false ↦ λ same. refl ] refl

pub max_pushed : (live : List Live) (job most other : ℕ) → is_live live job ≡ false → max_at (live ++ record { job = job; max = most; capacity = 0 } ∷ []) other ≡ cond (eqb job other) (Some most) (max_at live other)
max_pushed [] job most other h = refl
max_pushed (row ∷ rest) job most other h =
    elim (eqb row.job job) as (λ b. eqb row.job job ≡ b → (b || is_live rest job) ≡ false → cond (eqb row.job other) (Some row.max) (max_at (rest ++ record { job = job; max = most; capacity = 0 } ∷ []) other) ≡ cond (eqb job other) (Some most) (cond (eqb row.job other) (Some row.max) (max_at rest other))) [
      | true ↦ λ e no. absurd (cc)
      | false ↦ λ e no. ap (λ (m : Option ℕ). cond (eqb row.job other) (Some row.max) m) (max_pushed rest job most other no) ∙ swapped row.job row.max job most other (max_at rest other) e
    ] refl h

pub live_pushed : (live : List Live) (job most other : ℕ) → is_live live other ≡ true → is_live (live ++ record { job = job; max = most; capacity = 0 } ∷ []) other ≡ true
live_pushed [] job most other h = absurd (cc)
live_pushed (row ∷ rest) job most other h =
    elim (eqb row.job other) as (λ b. (b || is_live rest other) ≡ true → (b || is_live (rest ++ record { job = job; max = most; capacity = 0 } ∷ []) other) ≡ true)
    [ true ↦ λ e. refl | false ↦ λ e. live_pushed rest job most other e ] h

-- a job is live where it has a max, and only there
pub live_by_max : (live : List Live) (job : ℕ) → is_live live job ≡ false → max_at live job ≡ None
live_by_max = absent_max
