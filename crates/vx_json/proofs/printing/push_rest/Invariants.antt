use Rattle.std.proofs.Common.{◌≡◌, ◌++◌, take, IsUtf8}
use Rattle.vx_json.specs.Printing.{rest_text}
use Rattle.vx_json.proofs.printing.push_rest.Given as goal

abbrev pub invariant-loop-cell : goal.invariant-loop-cell
invariant-loop-cell l = (l.text.items ≡ l.initial.text.items ++ rest_text (take l.cell-index l.cells)) × IsUtf8 (rest_text (take l.cell-index l.cells))
