use Rattle.vx_records.proofs.Editing.{there, still_live, sets_matched}
use Rattle.vx_records.proofs.records.Records.set_matched.Goals as goal

pub mark-requires-clause-there : goal.mark-requires-clause-there
mark-requires-clause-there c = there c.self.inside.frames c.self.inside.free c.args.self.now c.args.number c.self.invariant c.self.view_is c.requires

pub invariant_of-self : goal.invariant_of-self
invariant_of-self c = (sets_matched c.self.inside.frames c.self.inside.free c.args.self.now c.args.number c.self.invariant c.self.view_is c.requires c.mark.new.frames c.mark.ensures).listed

pub returns-clause-set : goal.returns-clause-set
returns-clause-set c = (sets_matched c.self.inside.frames c.self.inside.free c.args.self.now c.args.number c.self.invariant c.self.view_is c.requires c.mark.new.frames c.mark.ensures).seen

pub returns-clause-there : goal.returns-clause-there
returns-clause-there c = still_live c.args.self.now _ c.args.number _ c.requires (sets_matched c.self.inside.frames c.self.inside.free c.args.self.now c.args.number c.self.invariant c.self.view_is c.requires c.mark.new.frames c.mark.ensures).seen
