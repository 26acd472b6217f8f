use Rattle.std.proofs.Common.{◌+◌, ◌^◌, ◌≤◌, arith}
use Rattle.vx_records.proofs.Placing.{per_positive, seen_count}
use Rattle.vx_records.proofs.Growing.{few_frames, has_room, adds_frame}
use Rattle.vx_records.proofs.frames.Frames.add.Goals as goal

pub nonzero_div-number : goal.nonzero_div-number
nonzero_div-number c = per_positive c.self.inside.size c.self.inside.per c.self.inside.region c.self.inside.count c.self.invariant

pub overflow_add-self : goal.overflow_add-self
overflow_add-self c =
    let few : c.self.inside.count ≤ 2 ^ 31 = few_frames c.self.inside.size c.self.inside.per c.self.inside.region c.self.inside.count c.self.invariant in
    omega (arith, few)

pub invariant_of-self-2 : goal.invariant_of-self-2
invariant_of-self-2 c = (has_room c.self.inside.size c.self.inside.per c.self.inside.region c.self.inside.count c.from.result c.from-2.result c.held.result c.grow_where.new.region c.self.invariant c.from.ensures c.from-2.ensures c.held.ensures.is c.in_ok-grow_where.ensures.ok c.in_ok-grow_where.ensures.few).are

pub returns-clause-number : goal.returns-clause-number
returns-clause-number c = seen_count c.self.inside.size c.self.inside.region c.self.inside.count c.args.self.now c.self.view_is

pub returns-clause-ok : goal.returns-clause-ok
returns-clause-ok c = adds_frame c.self.inside.size c.self.inside.per c.self.inside.region c.self.inside.count c.grow_where.new.region c.args.self.now c.self.view_is (has_room c.self.inside.size c.self.inside.per c.self.inside.region c.self.inside.count c.from.result c.from-2.result c.held.result c.grow_where.new.region c.self.invariant c.from.ensures c.from-2.ensures c.held.ensures.is c.in_ok-grow_where.ensures.ok c.in_ok-grow_where.ensures.few)

pub returns-clause-few : goal.returns-clause-few
returns-clause-few c =
    let few : c.self.inside.count + 1 ≤ 2 ^ 31 = few_frames c.self.inside.size c.self.inside.per c.grow_where.new.region (c.self.inside.count + 1) (has_room c.self.inside.size c.self.inside.per c.self.inside.region c.self.inside.count c.from.result c.from-2.result c.held.result c.grow_where.new.region c.self.invariant c.from.ensures c.from-2.ensures c.held.ensures.is c.in_ok-grow_where.ensures.ok c.in_ok-grow_where.ensures.few).are in
    omega (arith, few)
