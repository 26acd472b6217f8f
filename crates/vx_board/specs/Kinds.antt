-- What each kind of step on a board tells: of the step, the seat before, the number found and the seat
-- after. A seat is its view and the slots that it holds, of which a board has none.
use Rattle.std.specs.Prelude.{◌≡◌, ℕ, ◌==◌}
use Rattle.atomic_table.specs.Table.{Me, Step}
use Rattle.vx_board.specs.declared.view.View.{View}
use Rattle.vx_board.specs.Seats.{NoneTwice, Claims, Posts, Sees}
use Rattle.vx_board.specs.BoardRule.{claim_word, peak_word}

abbrev pub Sat : Type 0
Sat = Me (Unit {0}) View

abbrev pub Kind : Type 1
Kind = Step (Unit {0}) → Sat → ℕ → Sat → Type 0

-- a swap of 1 on a job's claim word: it was won where the word held 0
abbrev pub claimed : Kind
claimed step before found after =
    (after.1 ≡ before.1)
    × ((job : ℕ) → step.word ≡ claim_word job → Claims before.0 job (found == 0) after.0)

-- a `fetch_max` on a job's peak word
abbrev pub posted : Kind
posted step before found after =
    (after.1 ≡ before.1)
    × ((job : ℕ) → step.word ≡ peak_word job → Posts before.0 job step.first after.0)

-- a load of a job's peak word
abbrev pub peeked : Kind
peeked step before found after =
    (after.1 ≡ before.1)
    × ((job : ℕ) → step.word ≡ peak_word job → Sees before.0 job found after.0)

-- a load that changes nothing
abbrev pub looked : Kind
looked step before found after = (after ≡ before) × NoneTwice before.0.drawn
