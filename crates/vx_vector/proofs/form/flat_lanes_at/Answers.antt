use Rattle.vx_vector.proofs.FormLemmas.{all_rows_of}
use Rattle.vx_vector.proofs.form.flat_lanes_at.Goals as goal

pub returns-then-are_all_of : goal.returns-then-are_all_of
returns-then-are_all_of c = all_rows_of c.args.lanes.now c.copy.result c.args.rows.now (c.are_all_of.ensures.0 c.if-are_all_of.true) c.copy.ensures
