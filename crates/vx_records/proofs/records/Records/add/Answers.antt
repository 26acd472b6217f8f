use Rattle.std.proofs.Common.{◌-◌, ℕ, sym, subst}
use Rattle.vx_records.specs.Head.{IsListed}
use Rattle.vx_records.specs.Record.{fresh}
use Rattle.vx_records.proofs.Listing.{starts}
use Rattle.vx_records.proofs.Changes.{added_live}
use Rattle.vx_records.proofs.Editing.{body_all, pushed, uses_again}
use Rattle.vx_records.proofs.records.Records.add.Goals as goal

pub push-requires : goal.push-requires
push-requires c = body_all c.self.inside.frames c.self.inside.free c.args.self.now c.args.body.now c.self.invariant c.self.view_is c.requires

pub invariant_of-self : goal.invariant_of-self
invariant_of-self c = (pushed c.self.inside.frames c.self.inside.free c.args.self.now c.args.body.now c.push.new.frames c.push.result c.self.invariant c.self.view_is c.requires c.if-self-eq0.true c.push.ensures.number c.push.ensures.few c.push.ensures.ok c.push.ensures.err).listed

pub returns-then-self-eq0-clause-ok : goal.returns-then-self-eq0-clause-ok
returns-then-self-eq0-clause-ok c = (pushed c.self.inside.frames c.self.inside.free c.args.self.now c.args.body.now c.push.new.frames c.push.result c.self.invariant c.self.view_is c.requires c.if-self-eq0.true c.push.ensures.number c.push.ensures.few c.push.ensures.ok c.push.ensures.err).adds

pub returns-then-self-eq0-clause-there : goal.returns-then-self-eq0-clause-there
returns-then-self-eq0-clause-there c = (pushed c.self.inside.frames c.self.inside.free c.args.self.now c.args.body.now c.push.new.frames c.push.result c.self.invariant c.self.view_is c.requires c.if-self-eq0.true c.push.ensures.number c.push.ensures.few c.push.ensures.ok c.push.ensures.err).live

pub link-self-inside-requires-clause-there : goal.link-self-inside-requires-clause-there
link-self-inside-requires-clause-there c = (starts c.self.inside.frames c.self.inside.free c.self.invariant c.if-self-eq0.false).there

pub fill-requires-clause-there : goal.fill-requires-clause-there
fill-requires-clause-there c = (starts c.self.inside.frames c.self.inside.free c.self.invariant c.if-self-eq0.false).there

pub fill-requires-clause-long : goal.fill-requires-clause-long
fill-requires-clause-long c = c.self.invariant.long (c.self.inside.free - 1) (starts c.self.inside.frames c.self.inside.free c.self.invariant c.if-self-eq0.false).there

pub fill-requires-clause-all : goal.fill-requires-clause-all
fill-requires-clause-all c = body_all c.self.inside.frames c.self.inside.free c.args.self.now c.args.body.now c.self.invariant c.self.view_is c.requires

pub invariant_of-self-2 : goal.invariant_of-self-2
invariant_of-self-2 c = subst (λ (f : ℕ). IsListed c.fill.new.frames f) (sym c.link-self-inside.ensures) (uses_again c.self.inside.frames c.self.inside.free c.args.self.now c.args.body.now c.fill.new.frames c.self.invariant c.self.view_is c.requires c.if-self-eq0.false c.fill.ensures).listed

pub returns-clause-ok : goal.returns-clause-ok
returns-clause-ok c = (uses_again c.self.inside.frames c.self.inside.free c.args.self.now c.args.body.now c.fill.new.frames c.self.invariant c.self.view_is c.requires c.if-self-eq0.false c.fill.ensures).adds

pub returns-clause-there : goal.returns-clause-there
returns-clause-there c = added_live c.args.self.now _ (c.self.inside.free - 1) (fresh c.args.body.now) (uses_again c.self.inside.frames c.self.inside.free c.args.self.now c.args.body.now c.fill.new.frames c.self.invariant c.self.view_is c.requires c.if-self-eq0.false c.fill.ensures).adds
