-- The rule of a board: what holds of its words and of the views of all its seats, between any two steps.
use Rattle.std.specs.Prelude.{◌≡◌, ◌⊎◌, ℕ, ◌+◌, ◌*◌, ◌<◌, ◌≤◌, List, length, sum_by, slice_index}
use mathlib.Core.Option.{some}
use lib.ListN.{get_elem?}
use Rattle.vx_board.specs.declared.view.Terms.{Terms}
use Rattle.vx_board.specs.declared.view.View.{View}
use Rattle.vx_board.specs.Seats.{IsWhole, times, seen_of, spent}

-- the place of a job's claim word, which is 0, or 1 once the job is claimed
abbrev pub claim_word : ℕ → ℕ
claim_word job = 2 * job

-- the place of a job's peak word
abbrev pub peak_word : ℕ → ℕ
peak_word job = 2 * job + 1

-- how often the job stands in the lists of all views
abbrev pub draws : ℕ → List View → ℕ
draws job views = sum_by (λ view. times job view.drawn) views

-- A view has seen no more of a job than its word, and knows a job to be claimed only where its claim word
-- is 1. It is that of a seat which was joined to another, or it has a number for each job and the
-- board's total.
pub record FitsBoard (terms : Terms) (words : List ℕ) (view : View) : Type 0 where
  pub seen : (job : ℕ) → seen_of view job ≤ slice_index words (peak_word job)
  pub taken : (job : ℕ) → 0 < times job view.taken → 0 < slice_index words (claim_word job)
  pub whole : (view ≡ spent) ⊎ IsWhole terms view

-- A job whose claim word is 1 was drawn once, over all seats, and one whose claim word is 0 was not. No
-- claim word is other than 0 or 1, and no peak word is above the total. (A number that is no job's has
-- no words, which then read as 0.)
pub record KeepsBoard (terms : Terms) (words : List ℕ) (views : List View) : Type 0 where
  pub size : length words ≡ 2 * terms.jobs
  pub drawn : (job : ℕ) → draws job views ≡ slice_index words (claim_word job)
  pub once : (job : ℕ) → slice_index words (claim_word job) ≤ 1
  pub within : (job : ℕ) → slice_index words (peak_word job) ≤ terms.total
  pub known : (seat : ℕ) (view : View) → get_elem? views seat ≡ some view
      → FitsBoard terms words view
