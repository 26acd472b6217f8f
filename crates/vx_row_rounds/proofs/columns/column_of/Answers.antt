use Rattle.vx_row_rounds.proofs.ColumnLemmas.{column_of_lanes}
use Rattle.vx_row_rounds.proofs.columns.column_of.Goals as goal

pub returns : goal.returns
returns c = column_of_lanes c.args.lanes c.of_lanes.result c.of_lanes.ensures c.requires
