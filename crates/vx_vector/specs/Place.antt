-- What a place in a buffer of texts stands for.
use Rattle.std.specs.Prelude.{ℕ, ◌+◌, ◌≤◌, List, length, slice_range}
use Rattle.vx_value.specs.Value.{IsText}
use Rattle.vx_vector.specs.Lane.{TextRow, text_row, settled_mark}
use Rattle.vx_vector.specs.declared.texts.Place.{Place}

abbrev pub row_of : List ℕ → Place → TextRow
row_of bytes place = text_row place.mark (slice_range bytes place.start place.end)

-- the place lies in the buffer, and a text stands there
pub record IsPlaced (bytes : List ℕ) (place : Place) : Type 0 where
  pub up : place.start ≤ place.end
  pub within : place.end ≤ length bytes
  pub text : IsText (slice_range bytes place.start place.end)

-- so many bytes from a start
abbrev pub place_from : ℕ → ℕ → ℕ → Place
place_from start len mark = record { start = start; end = start + len; mark = mark }

abbrev pub settled_place : Place → Place
settled_place place = record { start = place.start; end = place.end; mark = settled_mark place.mark }
