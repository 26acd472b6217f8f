use Rattle.std.proofs.Common.{◌≡◌, ◌∙◌, ◌++◌, length, take, drop, map, ap, sym, arith}
use Rattle.std.proofs.lemmas.List.{length-map, length-take-le, drop_at, map-append, take-append-drop}
use Rattle.std.proofs.lemmas.Slice.{between_to_end}
use Rattle.vx_vector.proofs.LaneLemmas.{written_rest}
use Rattle.vx_vector.proofs.marks.rewrite_all.Goals as goal

pub returns : goal.returns
returns g c =
    let f = g.R.Rewrite.becomes in
    let marks = c.args.marks.now in
    let done = c.rewrite_in_lanes-done.result in
    let now = c.rewrite_in_lanes-done.new.marks in
    let front = map f (take done marks) in
    let made = c.rewrite_in_lanes-done.ensures in
    let long : length front ≡ done = length-map (take done marks) f ∙ length-take-le done marks made.within in
    written_rest front (drop done marks) now c.rewrite_one_by_one.new.marks done long made.marks
    ∙ ap (λ l. front ++ l) (c.rewrite_one_by_one.ensures ∙ ap (map f) (between_to_end now done (length now) (omega arith) ∙ ap (drop done) made.marks ∙ drop_at front (drop done marks) done long))
    ∙ sym (map-append f (take done marks) (drop done marks)) ∙ ap (map f) (take-append-drop done marks)
