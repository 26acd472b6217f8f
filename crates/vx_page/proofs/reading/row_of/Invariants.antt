use Rattle.std.proofs.Common.{◌≡◌, drop}
use Rattle.vx_page.specs.Reading.{in_turn, body_cell_at}
use Rattle.vx_page.proofs.Turns.{behind}
use Rattle.vx_page.proofs.reading.row_of.Given as goal

abbrev pub invariant-loop-slot : goal.invariant-loop-slot
invariant-loop-slot l =
    behind l.cells.items (in_turn (body_cell_at l.bounds.whole l.bounds.end) (drop l.slot-index l.shape) l.rest)
    ≡ in_turn (body_cell_at l.bounds.whole l.bounds.end) l.shape l.bytes
