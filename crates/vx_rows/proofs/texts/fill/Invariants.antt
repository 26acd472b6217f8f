use Rattle.std.proofs.Common.{◌≡◌, length}
use Rattle.vx_vector.specs.Batch.{row_of}
use Rattle.vx_rows.specs.Body.{all_stored}
use Rattle.vx_rows.specs.Layout.{body_len}
use Rattle.vx_rows.specs.Texts.{empty_of}
use Rattle.vx_rows.proofs.Filling.{FilledSoFar}
use Rattle.vx_rows.proofs.texts.fill.Given as goal

abbrev pub invariant-loop-which : goal.invariant-loop-which
invariant-loop-which l = record {
  len : length l.body ≡ body_len l.layout;
  filled : FilledSoFar l.initial.arena l.arena (empty_of l.layout) (all_stored l.layout l.body) (row_of l.batch.columns l.at) l.which;
}
