use Rattle.std.proofs.Common.{rules}
use Rattle.vx_vector.proofs.TextLemmas.{lanes_kept, row_more, placed_more}
use Rattle.vx_vector.proofs.texts.Texts.push.Goals as goal

pub returns-in_err-push-clause-err : goal.returns-in_err-push-clause-err
returns-in_err-push-clause-err c =
    let kept = rw (← c.in_ok-extend_from_slice.ensures.items) at (lanes_kept c.self.inside.bytes.items c.args.text.now _ c.self.invariant) in
    search rules

pub invariant_of-self-2 : goal.invariant_of-self-2
invariant_of-self-2 c =
    rw c.in_ok-push.ensures.items
    (placed_more c.self.inside.bytes.items c.args.text.now c.extend_from_slice.new.self.items c.self.inside.places.items c.in_ok-place.place c.args.mark c.self.invariant c.requires c.in_ok-extend_from_slice.ensures.items c.in_ok-place.ensures)

pub returns-clause-ok : goal.returns-clause-ok
returns-clause-ok c =
    rw (c.in_ok-push.ensures.items, row_more c.self.inside.bytes.items c.args.text.now c.extend_from_slice.new.self.items c.self.inside.places.items c.in_ok-place.place c.args.mark c.self.invariant c.in_ok-extend_from_slice.ensures.items c.in_ok-place.ensures, ← c.self.view_is)
