use Rattle.std.proofs.Common.{◌∙◌, ap, w32}
use Rattle.std.specs.Int.{to_le_bytes}
use Rattle.vx_records.proofs.Editing.{there, still_live, sets_next, link_fits}
use Rattle.vx_records.proofs.records.Records.set_next.Goals as goal

pub put-requires-clause-there : goal.put-requires-clause-there
put-requires-clause-there c = there c.self.inside.frames c.self.inside.free c.args.self.now c.args.number c.self.invariant c.self.view_is c.requires.live

pub invariant_of-self : goal.invariant_of-self
invariant_of-self c = (sets_next c.self.inside.frames c.self.inside.free c.args.self.now c.args.number c.self.invariant c.self.view_is c.requires.live c.args.next c.to_le_bytes.result c.put.new.self (link_fits c.args.next c.requires.fits) (c.to_le_bytes.ensures ∙ ap (to_le_bytes w32) c.link_of.ensures) c.put.ensures).listed

pub returns-clause-set : goal.returns-clause-set
returns-clause-set c = (sets_next c.self.inside.frames c.self.inside.free c.args.self.now c.args.number c.self.invariant c.self.view_is c.requires.live c.args.next c.to_le_bytes.result c.put.new.self (link_fits c.args.next c.requires.fits) (c.to_le_bytes.ensures ∙ ap (to_le_bytes w32) c.link_of.ensures) c.put.ensures).seen

pub returns-clause-there : goal.returns-clause-there
returns-clause-there c = still_live c.args.self.now _ c.args.number _ c.requires.live (sets_next c.self.inside.frames c.self.inside.free c.args.self.now c.args.number c.self.invariant c.self.view_is c.requires.live c.args.next c.to_le_bytes.result c.put.new.self (link_fits c.args.next c.requires.fits) (c.to_le_bytes.ensures ∙ ap (to_le_bytes w32) c.link_of.ensures) c.put.ensures).seen
