-- How many bytes of chunks a put of a batch's rows takes at most: those that so many rows need alone, and for texts
-- one chunk for each 2,040 bytes of blocks and one more.
use Rattle.std.specs.Prelude.{ℕ, ◌+◌, ◌*◌, ◌/◌, ◌==◌, if◌then◌else◌, List, length}
use Rattle.std.specs.List.{sum_by}
use Rattle.std.specs.Int.{div_ceil}
use Rattle.vx_arena.specs.Chunks.{held_by}
use Rattle.vx_vector.specs.Column.{Column}
use Rattle.vx_rows.specs.declared.fields.Extra.{Extra}
use Rattle.vx_rows.specs.Layout.{fields_of, rows_a_chunk}
use Rattle.vx_rows.specs.Container.{ContainerModel}
use Rattle.vx_rows.specs.Texts.{text_cost}

-- the chunks of so many rows
abbrev pub row_need : List Extra → ℕ → ℕ
row_need fields rows = 4096 * div_ceil rows (rows_a_chunk fields)

-- the bytes of the blocks of a column's texts, and of those of all columns
abbrev pub column_cost : Column → ℕ
column_cost column = sum_by text_cost column.values

abbrev pub texts_cost : List Column → ℕ
texts_cost columns = sum_by column_cost columns

-- the chunks of texts whose blocks have so many bytes
abbrev pub text_need : ℕ → ℕ
text_need cost = if cost == 0 then 0 else 4096 * (cost / 2040 + 1)

abbrev pub need_of : List Extra → List Column → ℕ → ℕ
need_of fields columns rows = row_need fields rows + text_need (texts_cost columns)

-- how many bytes the chunks of a container have
abbrev pub container_bytes : ContainerModel → ℕ
container_bytes c = row_need (fields_of c.kinds c.extras) (length c.rows) + held_by c.arena.chunks
