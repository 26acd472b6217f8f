use Rattle.std.proofs.Common.{◌^◌, ◌<◌, ◌≤◌, length, arith}
use Rattle.vx_records.proofs.Editing.{there, erases}
use Rattle.vx_records.proofs.records.Records.erase.Goals as goal

pub release-requires-clause-there : goal.release-requires-clause-there
release-requires-clause-there c = there c.self.inside.frames c.self.inside.free c.args.self.now c.args.number c.self.invariant c.self.view_is c.requires

pub overflow_add-self : goal.overflow_add-self
overflow_add-self c =
    let lt : c.args.number < length c.self.inside.frames.frames = there c.self.inside.frames c.self.inside.free c.args.self.now c.args.number c.self.invariant c.self.view_is c.requires in
    let few : length c.self.inside.frames.frames ≤ 2 ^ 31 = c.self.invariant.few in
    omega (arith, lt, few)

pub invariant_of-self : goal.invariant_of-self
invariant_of-self c = (erases c.self.inside.frames c.self.inside.free c.args.self.now c.args.number c.self.invariant c.self.view_is c.requires c.release.new.frames c.release.ensures).listed

pub returns : goal.returns
returns c = (erases c.self.inside.frames c.self.inside.free c.args.self.now c.args.number c.self.invariant c.self.view_is c.requires c.release.new.frames c.release.ensures).seen
