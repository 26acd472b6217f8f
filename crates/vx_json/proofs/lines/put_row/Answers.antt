use Rattle.std.proofs.Common.{◌∷◌, drop, length, sym, ap, ◌∙◌, List, ℕ, arith}
use Rattle.vx_json.proofs.LineLaws.{none_left, one_before, not_empty, whole_row}
use Rattle.vx_json.proofs.lines.put_row.Goals as goal

pub loop-left-init : goal.loop-left-init
loop-left-init c =
    let ends = c.put_byte-at.ensures.start in
    record {
      is = none_left c.args.cells.now c.args.bytes.now (drop c.put_byte-at.result c.put_byte-at.new.bytes) (length c.args.cells.now) c.told-bytes (omega arith) c.put_byte-at.ensures.is;
      whole = omega (arith, c.put_byte-at.auto.bytes, c.told-bytes);
      many = omega arith;
      room = omega (arith, ends, c.if-cells-gt-CELLS.false);
      inside = omega (arith, ends);
    }

pub bounds-cells-left : goal.bounds-cells-left
bounds-cells-left c = omega (arith, c.loop-left.invariant.many, c.loop-left-test.true)

pub loop-left-preserved : goal.loop-left-preserved
loop-left-preserved c =
    let so_far = c.loop-left.invariant in
    let cell = c.in_ok-start.ensures in
    let comma = c.put_byte-at-in-loop-left in
    let line = drop c.loop-left.at c.loop-left.bytes in
    record {
      is = one_before c.args.cells.now c.loop-left.left c.index-cells-left.result line (drop comma.result comma.new.bytes) c.loop-left-test.true so_far.many c.index-cells-left.is so_far.is (comma.ensures.is ∙ ap (λ (l : List ℕ). 44 ∷ l) cell.is);
      whole = omega (arith, comma.auto.bytes, c.put_cell.auto.bytes, so_far.whole);
      many = omega (arith, so_far.many);
      room = omega (arith, so_far.room, cell.most, comma.ensures.start, c.loop-left-test.true);
      inside = omega (arith, so_far.inside, cell.before, comma.ensures.start);
    }

pub returns-clause-is : goal.returns-clause-is
returns-clause-is c =
    whole_row c.args.cells.now c.loop-left.left c.loop-left.at c.loop-left.bytes (not_empty (length c.args.cells.now) (sym c.is_empty.ensures ∙ c.if-is_empty.false)) c.loop-left-test.false (omega (arith, c.loop-left.invariant.whole, c.loop-left.invariant.inside)) c.loop-left.invariant.is
