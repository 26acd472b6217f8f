use Rattle.std.proofs.Common.{◌≡◌, ◌*◌, ◌≤◌, ◌++◌, drop, length, codes}
use Rattle.vx_json.specs.Printing.{rest_text}
use Rattle.vx_json.proofs.lines.put_row.Given as goal

abbrev pub invariant-loop-left : goal.invariant-loop-left
invariant-loop-left l = record {
  is : drop l.at l.bytes ≡ rest_text (drop l.left l.cells) ++ codes "]";
  whole : length l.bytes ≡ 1345;
  many : l.left ≤ length l.cells;
  room : l.left * 21 ≤ l.at;
  inside : l.at ≤ 1344;
}

abbrev pub decreases-loop-left : goal.decreases-loop-left
decreases-loop-left l = l.left
