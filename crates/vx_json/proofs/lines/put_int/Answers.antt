use Rattle.std.proofs.Common.{drop, sym, ap, ◌∙◌, pos, nat_abs, int_lt, w64, arith}
use Rattle.std.proofs.lemmas.Int.{to_z-of_z}
use Rattle.vx_json.proofs.LineLaws.{few_digits, with_sign, without_sign}
use Rattle.vx_json.proofs.lines.put_int.Goals as goal

pub write_digits-start-requires : goal.write_digits-start-requires
write_digits-start-requires c =
    let few = few_digits c.unsigned_abs.result (omega (arith, c.unsigned_abs.ensures.bound)) in
    (omega (arith, few, c.requires.room), c.requires.inside)

pub overflow_sub-bytes : goal.overflow_sub-bytes
overflow_sub-bytes c =
    let few = few_digits c.unsigned_abs.result (omega (arith, c.unsigned_abs.ensures.bound)) in
    omega (arith, few, c.write_digits-start.ensures.start, c.requires.room)

pub overflow_sub-result : goal.overflow_sub-result
overflow_sub-result c =
    let few = few_digits c.unsigned_abs.result (omega (arith, c.unsigned_abs.ensures.bound)) in
    omega (arith, few, c.write_digits-start.ensures.start, c.requires.room)

pub returns-then-number-lt0-clause-is : goal.returns-then-number-lt0-clause-is
returns-then-number-lt0-clause-is c =
    let few = few_digits c.unsigned_abs.result (omega (arith, c.unsigned_abs.ensures.bound)) in
    let w = c.write_digits-start in
    let same = to_z-of_z w64 c.args.number c.ranges.number in
    with_sign c.args.number c.unsigned_abs.result w.result w.new.buf (drop c.args.end c.args.bytes.now) (ap (λ z. int_lt z (pos 0)) (sym same) ∙ c.if-number-lt0.true) (c.unsigned_abs.ensures.value ∙ ap nat_abs same) (omega (arith, few, w.ensures.start, c.requires.room)) (omega (arith, w.ensures.start, c.requires.inside, w.auto.buf)) w.ensures.written

pub returns-then-number-lt0-clause-most : goal.returns-then-number-lt0-clause-most
returns-then-number-lt0-clause-most c =
    let few = few_digits c.unsigned_abs.result (omega (arith, c.unsigned_abs.ensures.bound)) in
    omega (arith, few, c.write_digits-start.ensures.start)

pub returns-else-number-lt0-clause-is : goal.returns-else-number-lt0-clause-is
returns-else-number-lt0-clause-is c =
    let few = few_digits c.unsigned_abs.result (omega (arith, c.unsigned_abs.ensures.bound)) in
    let w = c.write_digits-start in
    let same = to_z-of_z w64 c.args.number c.ranges.number in
    without_sign c.args.number c.unsigned_abs.result w.result w.new.buf (drop c.args.end c.args.bytes.now) (ap (λ z. int_lt z (pos 0)) (sym same) ∙ c.if-number-lt0.false) (c.unsigned_abs.ensures.value ∙ ap nat_abs same) (omega (arith, few, w.ensures.start, c.requires.room)) w.ensures.written

pub returns-else-number-lt0-clause-most : goal.returns-else-number-lt0-clause-most
returns-else-number-lt0-clause-most c =
    let few = few_digits c.unsigned_abs.result (omega (arith, c.unsigned_abs.ensures.bound)) in
    omega (arith, few, c.write_digits-start.ensures.start)
