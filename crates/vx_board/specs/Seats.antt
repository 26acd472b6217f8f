-- What the seats of a board know of it, and what each call tells them.
use Rattle.std.specs.Prelude.{◌≡◌, ℕ, ◌≤◌, ◌==◌, max, Bool, List, [], ◌∷◌, ◌++◌, length, replicate, count_by, slice_index, slice_set, MatchBool}
use Rattle.atomic_table.specs.Seated.{TableId}
use Rattle.vx_board.specs.declared.view.Terms.{Terms}
use Rattle.vx_board.specs.declared.view.View.{View}

-- what contracts see of a board: which table its words are, and how large it is
pub record Size : Type 0 where
  pub table : TableId
  pub terms : Terms

-- what contracts see of a seat: the table that it steps on, and what it knows
pub record Known : Type 0 where
  pub table : TableId
  pub view : View

abbrev pub terms_of : ℕ → ℕ → Terms
terms_of jobs total = record { jobs = jobs; total = total }

-- the view has a number for each job, and the board's total
pub record IsWhole (terms : Terms) (view : View) : Type 0 where
  pub jobs : length view.seen ≡ terms.jobs
  pub most : view.most ≡ terms.total

-- the seat belongs to the board
pub record IsSeatOf (board : Size) (seat : Known) : Type 0 where
  pub table : seat.table ≡ board.table
  pub whole : IsWhole board.terms seat.view

-- how often a number stands in a list
abbrev pub times : ℕ → List ℕ → ℕ
times number numbers = count_by (λ other. other == number) numbers

-- no number stands twice
pub record NoneTwice (numbers : List ℕ) : Type 0 where
  pub at_most_once : (number : ℕ) → times number numbers ≤ 1

-- what a view has seen of a job
abbrev pub seen_of : View → ℕ → ℕ
seen_of view job = slice_index view.seen job

-- the view of a board's first seat
abbrev pub first_view : Terms → View
first_view terms = record {
  drawn = [];
  taken = [];
  seen = replicate terms.jobs 0;
  most = terms.total;
}

-- the view of a seat that was joined to another
abbrev pub spent : View
spent = record {
  drawn = [];
  taken = [];
  seen = [];
  most = 0;
}

-- the view once the job is known to be claimed
abbrev pub knowing : View → ℕ → View
knowing view job = record view { taken = view.taken ++ job ∷ [] }

-- the view after the job was drawn
abbrev pub drew : View → ℕ → View
drew view job =
    record view { drawn = view.drawn ++ job ∷ []; taken = view.taken ++ job ∷ [] }

-- the view after this peak of the job was seen
abbrev pub noting : View → ℕ → ℕ → View
noting view job peak = record view { seen = slice_set view.seen job peak }

-- the view of a seat that has seen the same and drawn nothing
abbrev pub undrawn : View → View
undrawn view = record view { drawn = [] }

-- the greater of two numbers at each place
abbrev pub greater : List ℕ → List ℕ → List ℕ
greater [] others = others
greater (x ∷ xs) [] = x ∷ xs
greater (x ∷ xs) (y ∷ ys) = max x y ∷ greater xs ys

-- what two seats know, in one view
abbrev pub together : View → View → View
together view other = record {
  drawn = view.drawn ++ other.drawn;
  taken = view.taken ++ other.taken;
  seen = greater view.seen other.seen;
  most = view.most;
}

-- A claim that was won has drawn the job. One that was lost has drawn nothing, and found that the job is
-- claimed. No seat draws a job twice.
pub record Claims (before : View) (job : ℕ) (won : Bool) (after : View) : Type 0 where
  pub drawn : MatchBool won (after ≡ drew before job) (after ≡ knowing before job)
  pub once : NoneTwice after.drawn

-- this peak of the job was seen: no less than what was seen before, and at most the total
pub record Sees (before : View) (job peak : ℕ) (after : View) : Type 0 where
  pub noted : after ≡ noting before job peak
  pub later : seen_of before job ≤ peak
  pub within : peak ≤ before.most

-- the job's peak was raised to what the seat has seen of it since, which is at least this one
pub record Posts (before : View) (job peak : ℕ) (after : View) : Type 0 where
  pub sees : Sees before job (seen_of after job) after
  pub at_least : peak ≤ seen_of after job
