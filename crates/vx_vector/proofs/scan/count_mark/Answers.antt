use Rattle.std.proofs.Common.{◌+◌, ◌∙◌, ap, ap₂, sym, length, arith, take, drop, nat_eq, ℕ}
use Rattle.std.specs.Prelude.{count_by}
use Rattle.std.proofs.lemmas.List.{take-append-drop}
use Rattle.std.proofs.lemmas.Slice.{between_to_end}
use Rattle.vx_vector.proofs.MarkLemmas.{count_by-append}
use Rattle.vx_vector.proofs.scan.count_mark.Goals as goal

pub returns : goal.returns
returns c =
    let p = λ (m : ℕ). nat_eq m c.args.mark in
    let marks = c.args.marks.now in
    let done = c.count_in_lanes-done.result.0 in
    ap₂ (λ a b. a + b) c.count_in_lanes-done.ensures.count (c.count_one_by_one.ensures ∙ ap (count_by p) (between_to_end marks done (length marks) (omega arith))) ∙ sym (count_by-append p (take done marks) (drop done marks)) ∙ ap (count_by p) (take-append-drop done marks)
