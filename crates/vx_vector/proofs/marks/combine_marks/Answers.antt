use Rattle.std.proofs.Common.{◌≡◌, ◌∙◌, ◌++◌, length, take, drop, ap, ap₂, sym, arith}
use Rattle.std.proofs.lemmas.List.{length-take-le, drop_at, take-append-drop}
use Rattle.std.proofs.lemmas.Slice.{between_to_end}
use Rattle.vx_vector.specs.Marks.{strict_marks}
use Rattle.vx_vector.proofs.LaneLemmas.{written_rest}
use Rattle.vx_vector.proofs.MarkLemmas.{length-strict_marks, strict_marks-append}
use Rattle.vx_vector.proofs.marks.combine_marks.Goals as goal

pub returns : goal.returns
returns c =
    let xs = c.args.left.now in
    let rs = c.args.right.now in
    let done = c.combine_in_lanes-done.result in
    let made = c.combine_in_lanes-done.ensures in
    let left : length (take done xs) ≡ done = length-take-le done xs made.within in
    let right : length (take done rs) ≡ done = length-take-le done rs (omega arith) in
    let now = c.combine_in_lanes-done.new.left in
    let front = strict_marks (take done xs) (take done rs) in
    let long : length front ≡ done = length-strict_marks (take done xs) (take done rs) (right ∙ sym left) ∙ left in
    written_rest front (drop done xs) now c.combine_one_by_one.new.left done long made.marks
    ∙ ap (λ l. front ++ l) (c.combine_one_by_one.ensures ∙ ap₂ strict_marks (between_to_end now done (length now) (omega arith) ∙ ap (drop done) made.marks ∙ drop_at front (drop done xs) done long) (between_to_end rs done (length rs) (omega arith)))
    ∙ sym (strict_marks-append (take done xs) (take done rs) (drop done xs) (drop done rs) (right ∙ sym left))
    ∙ ap₂ strict_marks (take-append-drop done xs) (take-append-drop done rs)
