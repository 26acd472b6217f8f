-- What typed buffers with a mark a row stand for.
use Rattle.std.specs.Prelude.{◌≡◌, ℕ, ◌<◌, Bool, List, length, get_or, Option, Some, None, false, pos}
use Rattle.std.specs.List.{list_any}
use Rattle.vx_value.specs.declared.value.Kind.{Kind}
use Rattle.vx_value.specs.declared.value.Kind.TheVariants as kind
use Rattle.vx_value.specs.declared.value.Value.TheVariants as value
use Rattle.vx_vector.specs.Lane.{Lane, TextRow, lane, lane_of_text, text_at, absent}
use Rattle.vx_vector.specs.Marks.{is_fault}
use Rattle.vx_vector.specs.declared.lanes.Bools.{Bools}
use Rattle.vx_vector.specs.declared.lanes.Ints.{Ints}
use Rattle.vx_vector.specs.declared.lanes.Lanes.{Lanes}
use Rattle.vx_vector.specs.declared.lanes.Lanes.TheVariants as lanes

abbrev pub kind_of : Lanes → Kind
kind_of (lanes.Bools b) = kind.Bool
kind_of (lanes.Ints i) = kind.Int
kind_of (lanes.Texts t) = kind.Text

-- how many rows there are
abbrev pub rows_of : Lanes → ℕ
rows_of (lanes.Bools b) = length b.marks.items
rows_of (lanes.Ints i) = length i.marks.items
rows_of (lanes.Texts t) = length t

abbrev pub bool_lane : Bools → ℕ → Lane
bool_lane b k = lane (get_or b.marks.items k 1) (value.Bool (get_or b.values.items k false))

abbrev pub int_lane : Ints → ℕ → Lane
int_lane i k = lane (get_or i.marks.items k 1) (value.Int (get_or i.values.items k (pos 0)))

abbrev pub text_lane : List TextRow → ℕ → Lane
text_lane t row = lane_of_text (text_at t row)

-- one row
abbrev pub lane_at : Lanes → ℕ → Lane
lane_at (lanes.Bools b) row = bool_lane b row
lane_at (lanes.Ints i) row = int_lane i row
lane_at (lanes.Texts t) row = text_lane t row

-- the row at a place, and a null where there is none
abbrev pub lane_or_null : Lanes → Option ℕ → Lane
lane_or_null l None = absent (kind_of l)
lane_or_null l (Some place) = lane_at l place

-- whether a row has a mark that is neither that of a fine row nor that of a null
abbrev pub holds_fault : Lanes → Bool
holds_fault (lanes.Bools b) = list_any is_fault b.marks.items
holds_fault (lanes.Ints i) = list_any is_fault i.marks.items
holds_fault (lanes.Texts t) = list_any (λ (r : TextRow). is_fault r.mark) t

-- so many rows of a kind, each as said
pub record AreLanes (of : Kind) (count : ℕ) (each : ℕ → Lane) (l : Lanes) : Type 0 where
  pub kind : kind_of l ≡ of
  pub rows : rows_of l ≡ count
  pub at : (row : ℕ) → row < count → lane_at l row ≡ each row
