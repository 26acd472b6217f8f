use Rattle.std.proofs.Common.{◌≡◌, ◌++◌, length, rules, length-append}
use Rattle.vx_vector.specs.Place.{place_from}
use Rattle.vx_vector.proofs.TextLemmas.{lanes_kept, row_more, placed_more, both_behind, joined_is_text}
use Rattle.vx_vector.proofs.texts.Texts.push_joined.Goals as goal

pub returns-in_err-extend_from_slice-2-clause-err : goal.returns-in_err-extend_from_slice-2-clause-err
returns-in_err-extend_from_slice-2-clause-err c =
    let kept = rw (← c.in_ok-extend_from_slice.ensures.items) at (lanes_kept c.self.inside.bytes.items c.args.a.now _ c.self.invariant) in
    search rules

pub returns-in_err-push-clause-err : goal.returns-in_err-push-clause-err
returns-in_err-push-clause-err c =
    let both = both_behind c.self.inside.bytes.items c.args.a.now c.args.b.now _ _ c.in_ok-extend_from_slice.ensures.items c.in_ok-extend_from_slice-2.ensures.items in
    let kept = rw (← both) at (lanes_kept c.self.inside.bytes.items (c.args.a.now ++ c.args.b.now) _ c.self.invariant) in
    search rules

pub invariant_of-self-2 : goal.invariant_of-self-2
invariant_of-self-2 c =
    let both = both_behind c.self.inside.bytes.items c.args.a.now c.args.b.now _ _ c.in_ok-extend_from_slice.ensures.items c.in_ok-extend_from_slice-2.ensures.items in
    let place : c.in_ok-place.place ≡ place_from (length c.self.inside.bytes.items) (length (c.args.a.now ++ c.args.b.now)) 0 = rw (length-append c.args.a.now c.args.b.now) c.in_ok-place.ensures in
    rw c.in_ok-push.ensures.items
    (placed_more c.self.inside.bytes.items (c.args.a.now ++ c.args.b.now) c.extend_from_slice-2.new.self.items c.self.inside.places.items c.in_ok-place.place 0 c.self.invariant (joined_is_text c.args.a.now c.args.b.now c.requires.left c.requires.right c.requires.short) both place)

pub returns-clause-ok : goal.returns-clause-ok
returns-clause-ok c =
    let both = both_behind c.self.inside.bytes.items c.args.a.now c.args.b.now _ _ c.in_ok-extend_from_slice.ensures.items c.in_ok-extend_from_slice-2.ensures.items in
    let place : c.in_ok-place.place ≡ place_from (length c.self.inside.bytes.items) (length (c.args.a.now ++ c.args.b.now)) 0 = rw (length-append c.args.a.now c.args.b.now) c.in_ok-place.ensures in
    rw (c.in_ok-push.ensures.items, row_more c.self.inside.bytes.items (c.args.a.now ++ c.args.b.now) c.extend_from_slice-2.new.self.items c.self.inside.places.items c.in_ok-place.place 0 c.self.invariant both place, ← c.self.view_is)
