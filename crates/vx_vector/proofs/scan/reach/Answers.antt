use Rattle.std.proofs.Common.{◌∙◌, ap, length, arith, nat_le}
use Rattle.std.specs.List.{list_any}
use Rattle.std.proofs.lemmas.Slice.{between_to_end}
use Rattle.vx_vector.proofs.MarkLemmas.{any_rest}
use Rattle.vx_vector.proofs.scan.reach.Goals as goal

pub returns : goal.returns
returns c =
    let p = nat_le c.args.least in
    let marks = c.args.marks.now in
    let done = c.less_in_lanes-done.result in
    c.reach_one_by_one.ensures ∙ ap (list_any p) (between_to_end marks done (length marks) (omega arith)) ∙ any_rest p marks done c.less_in_lanes-done.ensures.less
