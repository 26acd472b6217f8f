-- The rows of the live jobs, and the request that stands.
use Rattle.std.specs.Prelude.{◌≡◌, ℕ, ◌-◌, ◌==◌, Bool, if◌then◌else◌, IsTrue, Option, Some, None, option_map, unwrap_or, List, [], ◌∷◌}
use Rattle.std.specs.List.{list_any, list_all}
use Rattle.vx_arb.specs.declared.rows.Live.{Live}
use Rattle.vx_arb.specs.declared.rows.Standing.{Standing}
use Rattle.vx_arb.specs.Unmet.{is_at_most}

abbrev pub is_live : List Live → ℕ → Bool
is_live live job = list_any (λ (row : Live). row.job == job) live

-- the capacity of a job, 0 where it isn't live
abbrev pub capacity_at : List Live → ℕ → ℕ
capacity_at [] job = 0
capacity_at (row ∷ rest) job = if row.job == job then row.capacity else capacity_at rest job

-- the max of a job, where it is live
abbrev pub max_at : List Live → ℕ → Option ℕ
max_at [] job = None
max_at (row ∷ rest) job = if row.job == job then Some row.max else max_at rest job

-- the max of a job, 0 where it isn't live
abbrev pub max_in : List Live → ℕ → ℕ
max_in live job = unwrap_or (max_at live job) 0

-- the rows, with another capacity in that of a job
abbrev pub with_capacity : List Live → ℕ → ℕ → List Live
with_capacity [] job capacity = []
with_capacity (row ∷ rest) job capacity =
    if row.job == job then record row { capacity = capacity } ∷ rest
    else row ∷ with_capacity rest job capacity

-- the rows without that of a job
abbrev pub without : List Live → ℕ → List Live
without [] job = []
without (row ∷ rest) job = if row.job == job then rest else row ∷ without rest job

-- whether a job has the largest capacity, and among equals the greatest number
abbrev pub is_largest : List Live → ℕ → Bool
is_largest live job =
    list_all (λ (row : Live). is_at_most row.capacity row.job (capacity_at live job) job) live

-- the request with one shrink or reclaim less to make
abbrev pub one_less : Option Standing → Option Standing
one_less standing = option_map (λ (s : Standing). record s { left = s.left - 1 }) standing

-- a member's row: it is live, with the capacity that the member has
pub record IsTied (live : List Live) (job capacity : ℕ) : Type 0 where
  pub there : IsTrue (is_live live job)
  pub same : capacity_at live job ≡ capacity
