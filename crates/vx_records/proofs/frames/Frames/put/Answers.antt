use Rattle.std.proofs.Common.{◌≡◌, ◌+◌, ◌<◌, ◌≤◌, length, arith}
use Rattle.vx_records.proofs.Placing.{seen_size, seen_below, per_positive, inside, at_fits, wrote_seen}
use Rattle.vx_records.proofs.frames.Frames.put.Goals as goal

pub place-to-requires-clause-some : goal.place-to-requires-clause-some
place-to-requires-clause-some c = per_positive c.self.inside.size c.self.inside.per c.self.inside.region c.self.inside.count c.self.invariant

pub overflow_add-start : goal.overflow_add-start
overflow_add-start c =
    let there : c.args.number < c.self.inside.count = seen_below c.self.inside.size c.self.inside.region c.self.inside.count c.args.self.now c.args.number c.self.view_is c.requires.there in
    let size : c.self.inside.size ≡ c.args.self.now.size = seen_size c.self.inside.size c.self.inside.region c.self.inside.count c.args.self.now c.self.view_is in
    let fits : c.place-to.result.at + c.args.at ≤ 4096 = at_fits c.self.inside.size c.self.inside.per c.self.inside.region c.self.inside.count c.args.number c.args.at c.place-to.result c.self.invariant there c.place-to.ensures (omega (arith, size, c.requires.inside)) in
    omega (arith, fits, c.from.ensures)

pub write-requires : goal.write-requires
write-requires c =
    let there : c.args.number < c.self.inside.count = seen_below c.self.inside.size c.self.inside.region c.self.inside.count c.args.self.now c.args.number c.self.view_is c.requires.there in
    let size : c.self.inside.size ≡ c.args.self.now.size = seen_size c.self.inside.size c.self.inside.region c.self.inside.count c.args.self.now c.self.view_is in
    rw c.from.ensures (inside c.self.inside.size c.self.inside.per c.self.inside.region c.self.inside.count c.args.number c.args.at (length c.args.from.now) c.place-to.result c.self.invariant there c.place-to.ensures (omega (arith, size, c.requires.inside)))

pub invariant_of-self : goal.invariant_of-self
invariant_of-self c =
    (wrote_seen c.self.inside.size c.self.inside.per c.self.inside.region c.self.inside.count c.args.number c.args.at c.args.from.now c.place-to.result c.write.new.self c.args.self.now c.self.invariant c.self.view_is c.requires.there c.place-to.ensures c.requires.inside (rw c.from.ensures at c.write.ensures)).0

pub returns : goal.returns
returns c =
    (wrote_seen c.self.inside.size c.self.inside.per c.self.inside.region c.self.inside.count c.args.number c.args.at c.args.from.now c.place-to.result c.write.new.self c.args.self.now c.self.invariant c.self.view_is c.requires.there c.place-to.ensures c.requires.inside (rw c.from.ensures at c.write.ensures)).1
