use Rattle.std.proofs.Common.{◌≡◌, take}
use Rattle.vx_vector.specs.Batch.{row_of}
use Rattle.vx_rows.specs.Container.{key_values, live}
use Rattle.vx_rows.proofs.container.RowContainer.key_equals.Given as goal

abbrev pub invariant-loop-place : goal.invariant-loop-place
invariant-loop-place l = key_values (take l.place l.columns) (live l.self l.row).cells ≡ key_values (take l.place l.of) (row_of l.batch.columns l.at)
