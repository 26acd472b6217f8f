use Rattle.std.proofs.Common.{◌≡◌, take, drop}
use Rattle.vx_meaning.specs.Rows.{image, first_fault}
use Rattle.vx_meaning.proofs.rowwise.image_of.Given as goal

abbrev pub invariant-loop-e : goal.invariant-loop-e
invariant-loop-e l = record {
  cells : l.cells.items ≡ image (take l.e-index l.exprs) l.row;
  fault : first_fault (drop l.e-index l.exprs) l.row ≡ first_fault l.exprs l.row;
}
