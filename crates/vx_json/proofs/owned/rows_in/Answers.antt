use Rattle.vx_json.specs.Cells.{row_at}
use Rattle.vx_json.specs.Place.{path_of}
use Rattle.vx_json.proofs.ListLaws.{list_at-Array}
use Rattle.vx_json.proofs.LongLaws.{has_long-Array}
use Rattle.vx_json.proofs.owned.rows_in.Goals as goal

pub returns-in-Array-clause-gives : goal.returns-in-Array-clause-gives
returns-in-Array-clause-gives c = rw (c.in-Array.is, list_at-Array (λ _. row_at c.args.kinds.now) (path_of c.args.way.now) c.in-Array.values) c.each_row.ensures.gives

pub returns-in-Array-clause-noted : goal.returns-in-Array-clause-noted
returns-in-Array-clause-noted c = rw (c.in-Array.is, has_long-Array c.in-Array.values) c.each_row.ensures.noted
