use Rattle.std.proofs.Common.{get_or, subst}
use Rattle.vx_arena.specs.Chunks.{Chunks}
use Rattle.vx_arena.specs.Free.{Gives}
use Rattle.vx_arena.proofs.Steps.{bare, head_named, head_long, after_there, after_long, pops, pop_gives}
use Rattle.vx_arena.proofs.free.FreeBlocks.pop.Goals as goal

pub returns-then-name : goal.returns-then-name
returns-then-name c = bare c.self.inside.blocks c.args.self.now c.self.inside.heads c.args.class c.self.invariant c.requires c.if-name.true c.self.view_is

pub next-after-requires-clause-there : goal.next-after-requires-clause-there
next-after-requires-clause-there c = head_named c.self.inside.blocks c.self.inside.heads c.args.class c.self.invariant c.requires c.if-name.false

pub next-after-requires-clause-long : goal.next-after-requires-clause-long
next-after-requires-clause-long c = head_long c.self.inside.blocks c.self.inside.heads c.args.class c.self.invariant c.requires c.if-name.false

pub mark-requires : goal.mark-requires
mark-requires c = head_named c.self.inside.blocks c.self.inside.heads c.args.class c.self.invariant c.requires c.if-name.false

pub set_before-requires-clause-there : goal.set_before-requires-clause-there
set_before-requires-clause-there c = after_there c.self.inside.blocks c.self.inside.heads c.args.class c.self.invariant c.requires c.if-name.false c.mark.new.blocks c.next-after.result c.next-after.ensures c.mark.ensures

pub set_before-requires-clause-long : goal.set_before-requires-clause-long
set_before-requires-clause-long c = after_long c.self.inside.blocks c.self.inside.heads c.args.class c.self.invariant c.requires c.if-name.false c.mark.new.blocks c.next-after.result c.next-after.ensures c.mark.ensures

pub invariant_of-self : goal.invariant_of-self
invariant_of-self c = pops c.self.inside.blocks c.self.inside.heads c.args.class c.self.invariant c.requires c.if-name.false c.mark.new.blocks c.next-after.result c.next-after.ensures c.mark.ensures c.set_before.new.blocks c.set_before.ensures.sets

pub returns : goal.returns
returns c = subst (λ (v : Chunks). Gives c.args.class v c.set_before.new.blocks (get_or c.self.inside.heads c.args.class 0)) c.self.view_is (pop_gives c.self.inside.blocks c.self.inside.heads c.args.class c.self.invariant c.requires c.if-name.false c.mark.new.blocks c.next-after.result c.next-after.ensures c.mark.ensures c.set_before.new.blocks c.set_before.ensures.sets)
