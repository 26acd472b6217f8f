use Rattle.std.proofs.Common.{◌≡◌, ◌+◌, ◌<◌, ◌≤◌, length, arith, ap, ◌∙◌}
use Rattle.vx_records.proofs.Placing.{seen_size, seen_below, per_positive, inside, at_fits, read_seen, read_long}
use Rattle.vx_records.proofs.frames.Frames.bytes.Goals as goal

pub place-from-requires-clause-some : goal.place-from-requires-clause-some
place-from-requires-clause-some c = per_positive c.self.inside.size c.self.inside.per c.self.inside.region c.self.inside.count c.self.invariant

pub overflow_add-start : goal.overflow_add-start
overflow_add-start c =
    let there : c.args.number < c.self.inside.count = seen_below c.self.inside.size c.self.inside.region c.self.inside.count c.args.self.now c.args.number c.self.view_is c.requires.there in
    let size : c.self.inside.size ≡ c.args.self.now.size = seen_size c.self.inside.size c.self.inside.region c.self.inside.count c.args.self.now c.self.view_is in
    let fits : c.place-from.result.at + c.args.at ≤ 4096 = at_fits c.self.inside.size c.self.inside.per c.self.inside.region c.self.inside.count c.args.number c.args.at c.place-from.result c.self.invariant there c.place-from.ensures (omega (arith, size, c.requires.inside)) in
    omega (arith, fits, c.from.ensures)

pub bytes-requires : goal.bytes-requires
bytes-requires c =
    let there : c.args.number < c.self.inside.count = seen_below c.self.inside.size c.self.inside.region c.self.inside.count c.args.self.now c.args.number c.self.view_is c.requires.there in
    let size : c.self.inside.size ≡ c.args.self.now.size = seen_size c.self.inside.size c.self.inside.region c.self.inside.count c.args.self.now c.self.view_is in
    rw c.from.ensures (rw c.from-2.ensures (inside c.self.inside.size c.self.inside.per c.self.inside.region c.self.inside.count c.args.number c.args.at c.args.len c.place-from.result c.self.invariant there c.place-from.ensures (omega (arith, size, c.requires.inside))))

pub returns-clause-is : goal.returns-clause-is
returns-clause-is c = c.bytes.ensures ∙ rw c.from.ensures (rw c.from-2.ensures (read_seen c.self.inside.size c.self.inside.per c.self.inside.region c.self.inside.count c.args.number c.args.at c.args.len c.place-from.result c.args.self.now c.self.invariant c.self.view_is c.requires.there c.place-from.ensures c.requires.inside))

pub returns-clause-len : goal.returns-clause-len
returns-clause-len c = ap length c.bytes.ensures ∙ rw c.from.ensures (rw c.from-2.ensures (read_long c.self.inside.size c.self.inside.per c.self.inside.region c.self.inside.count c.args.number c.args.at c.args.len c.place-from.result c.args.self.now c.self.invariant c.self.view_is c.requires.there c.place-from.ensures c.requires.inside))
