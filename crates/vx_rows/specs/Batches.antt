-- The rows of a batch in a container, each at a number of its own, and what they take of the arena.
use Rattle.std.specs.Prelude.{◌≡◌, ◌≢◌, ℕ, ◌+◌, ◌^◌, ◌<◌, max, Some, None, List, length, slice_index}
use Rattle.std.specs.List.{sum_by}
use Rattle.vx_vector.specs.Column.{Column}
use Rattle.vx_vector.specs.Batch.{row_of}
use Rattle.vx_rows.specs.declared.fields.Extra.{Extra}
use Rattle.vx_rows.specs.Container.{ContainerModel, blocks_of_row, new_row, row_at, row_count}
use Rattle.vx_rows.specs.Texts.{text_cost}

-- the first so many rows of a batch stand at these numbers, which were free and of which no two are the same; every
-- other number has the row that it had. There are no more numbers than before, or just as many as there are rows
pub record AddsRows (columns : List Column) (count : ℕ) (before after : ContainerModel) (numbers : List ℕ) : Type 0 where
  pub many : length numbers ≡ count
  pub free : (k : ℕ) → k < count → row_at before (slice_index numbers k) ≡ None
  pub there : (k : ℕ) → k < count → row_at after (slice_index numbers k) ≡ Some (new_row before.extras (row_of columns k))
  pub apart : (j k : ℕ) → j < k → k < count → slice_index numbers j ≢ slice_index numbers k
  pub others : (n : ℕ) → ((k : ℕ) → k < count → n ≢ slice_index numbers k) → row_at after n ≡ row_at before n
  pub low : (k : ℕ) → k < count → slice_index numbers k < 2 ^ 31
  pub rows : row_count after.rows ≡ row_count before.rows + count
  pub all : length after.rows ≡ max (length before.rows) (row_count before.rows + count)

-- none of the first so many of these numbers has a row any more; every other number has the row that it had
pub record Erases (numbers : List ℕ) (count : ℕ) (before after : ContainerModel) : Type 0 where
  pub gone : (k : ℕ) → k < count → row_at after (slice_index numbers k) ≡ None
  pub others : (n : ℕ) → ((k : ℕ) → k < count → n ≢ slice_index numbers k) → row_at after n ≡ row_at before n
  pub many : length after.rows ≡ length before.rows

-- how many blocks the texts of these rows of a batch have in the arena, and how many bytes those have
abbrev pub blocks_of_rows : List Extra → List Column → List ℕ → ℕ
blocks_of_rows extras columns rows = sum_by (λ at. blocks_of_row (new_row extras (row_of columns at))) rows

abbrev pub cost_of_rows : List Column → List ℕ → ℕ
cost_of_rows columns rows = sum_by (λ at. sum_by text_cost (row_of columns at)) rows
