use Rattle.std.proofs.Common.{◌+◌, ◌≤◌, ◌∙◌, ap, ap₂, sym, length, take, arith, nat_eq, ℕ}
use Rattle.std.specs.Prelude.{count_by}
use lib.Lanes.{chunk}
use Rattle.std.proofs.lemmas.List.{length-take-le}
use Rattle.std.proofs.lemmas.List.Sums.{count_by-le-length}
use Rattle.std.proofs.lemmas.Simd.{length-chunk}
use Rattle.vx_vector.proofs.LaneLemmas.{take_further}
use Rattle.vx_vector.proofs.MarkLemmas.{count_by-append}
use Rattle.vx_vector.proofs.scan.count_in_lanes.Goals as goal

pub overflow_add-count : goal.overflow_add-count
overflow_add-count c =
    let p = λ (m : ℕ). nat_eq m c.args.mark in
    let marks = c.args.marks.now in
    let at = c.loop-at.at in
    let within : at + 16 ≤ length marks = omega arith in
    omega (arith, count_by-le-length p (take at marks), length-take-le at marks (omega arith), count_by-le-length p (chunk at 16 marks), length-chunk at 16 marks within)

pub loop-at-preserved : goal.loop-at-preserved
loop-at-preserved c =
    let p = λ (m : ℕ). nat_eq m c.args.mark in
    let marks = c.args.marks.now in
    let at = c.loop-at.at in
    let within : at + 16 ≤ length marks = omega arith in
    (within, ap₂ (λ a b. a + b) c.loop-at.invariant.1 c.count_lanes-count.ensures ∙ sym (ap (count_by p) (take_further marks at 16 within) ∙ count_by-append p (take at marks) (chunk at 16 marks)))
