use Rattle.std.proofs.Common.{◌+◌, ◌^◌, ◌<◌, length, arith}
use Rattle.vx_records.proofs.Editing.{there, still_live, writes, body_fits, at_fits}
use Rattle.vx_records.proofs.records.Records.write.Goals as goal

pub overflow_add-at : goal.overflow_add-at
overflow_add-at c =
    let fits : 8 + c.args.at < 2 ^ 32 = at_fits c.self.inside.frames c.self.inside.free c.args.self.now c.args.number c.self.invariant c.self.view_is c.requires.live c.args.at (length c.args.from.now) c.requires.inside in
    omega (arith, fits)

pub put-requires-clause-there : goal.put-requires-clause-there
put-requires-clause-there c = there c.self.inside.frames c.self.inside.free c.args.self.now c.args.number c.self.invariant c.self.view_is c.requires.live

pub put-requires-clause-inside : goal.put-requires-clause-inside
put-requires-clause-inside c = body_fits c.self.inside.frames c.self.inside.free c.args.self.now c.args.number c.self.invariant c.self.view_is c.requires.live c.args.at (length c.args.from.now) c.requires.inside

pub invariant_of-self : goal.invariant_of-self
invariant_of-self c = (writes c.self.inside.frames c.self.inside.free c.args.self.now c.args.number c.self.invariant c.self.view_is c.requires.live c.args.at c.args.from.now c.put.new.self c.requires.inside c.put.ensures).listed

pub returns-clause-set : goal.returns-clause-set
returns-clause-set c = (writes c.self.inside.frames c.self.inside.free c.args.self.now c.args.number c.self.invariant c.self.view_is c.requires.live c.args.at c.args.from.now c.put.new.self c.requires.inside c.put.ensures).seen

pub returns-clause-there : goal.returns-clause-there
returns-clause-there c = still_live c.args.self.now _ c.args.number _ c.requires.live (writes c.self.inside.frames c.self.inside.free c.args.self.now c.args.number c.self.invariant c.self.view_is c.requires.live c.args.at c.args.from.now c.put.new.self c.requires.inside c.put.ensures).seen
