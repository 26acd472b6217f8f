use Rattle.std.proofs.Common.{◌<◌, sym, ap, ◌∙◌, subst, rules}
use Rattle.vx_arena.specs.Chunks.{Chunks}
use Rattle.vx_arena.specs.Free.{class_of, IsLive, Frees}
use Rattle.vx_arena.proofs.Steps.{named_live, named_changed, live_long, class_lt, old_head_named, old_head_long, none_after, pushes, push_frees}
use Rattle.vx_arena.proofs.free.FreeBlocks.push.Goals as goal

pub len-requires : goal.len-requires
len-requires c = named_live c.self.inside.blocks c.args.name (subst (λ (v : Chunks). IsLive v c.args.name) (sym c.self.view_is) c.requires)

pub offset_bounds-self-inside-class : goal.offset_bounds-self-inside-class
offset_bounds-self-inside-class c = let lt : c.class_of-class.result < 8 = class_lt c.self.inside.blocks c.self.inside.heads c.args.name c.class_of-class.result c.self.invariant (subst (λ (v : Chunks). IsLive v c.args.name) (sym c.self.view_is) c.requires) (c.class_of-class.ensures ∙ ap class_of c.len.ensures) in search rules

pub bounds-self-inside-class : goal.bounds-self-inside-class
bounds-self-inside-class c = class_lt c.self.inside.blocks c.self.inside.heads c.args.name c.class_of-class.result c.self.invariant (subst (λ (v : Chunks). IsLive v c.args.name) (sym c.self.view_is) c.requires) (c.class_of-class.ensures ∙ ap class_of c.len.ensures)

pub offset_bounds-self-inside-class-2 : goal.offset_bounds-self-inside-class-2
offset_bounds-self-inside-class-2 c = let lt : c.class_of-class.result < 8 = class_lt c.self.inside.blocks c.self.inside.heads c.args.name c.class_of-class.result c.self.invariant (subst (λ (v : Chunks). IsLive v c.args.name) (sym c.self.view_is) c.requires) (c.class_of-class.ensures ∙ ap class_of c.len.ensures) in search rules

pub bounds-self-inside-class-2 : goal.bounds-self-inside-class-2
bounds-self-inside-class-2 c = class_lt c.self.inside.blocks c.self.inside.heads c.args.name c.class_of-class.result c.self.invariant (subst (λ (v : Chunks). IsLive v c.args.name) (sym c.self.view_is) c.requires) (c.class_of-class.ensures ∙ ap class_of c.len.ensures)

pub link-requires-clause-there : goal.link-requires-clause-there
link-requires-clause-there c = named_live c.self.inside.blocks c.args.name (subst (λ (v : Chunks). IsLive v c.args.name) (sym c.self.view_is) c.requires)

pub link-requires-clause-long : goal.link-requires-clause-long
link-requires-clause-long c = live_long c.self.inside.blocks c.self.inside.heads c.args.name c.class_of-class.result c.self.invariant (subst (λ (v : Chunks). IsLive v c.args.name) (sym c.self.view_is) c.requires) (c.class_of-class.ensures ∙ ap class_of c.len.ensures)

pub mark-requires : goal.mark-requires
mark-requires c = named_changed c.self.inside.blocks c.link.new.blocks c.args.name _ c.link.ensures

pub set_before-requires-clause-there : goal.set_before-requires-clause-there
set_before-requires-clause-there c = old_head_named c.self.inside.blocks c.self.inside.heads c.args.name c.class_of-class.result c.self.invariant (subst (λ (v : Chunks). IsLive v c.args.name) (sym c.self.view_is) c.requires) (c.class_of-class.ensures ∙ ap class_of c.len.ensures) c.link.new.blocks c.mark.new.blocks c.link.ensures c.mark.ensures

pub set_before-requires-clause-long : goal.set_before-requires-clause-long
set_before-requires-clause-long c = old_head_long c.self.inside.blocks c.self.inside.heads c.args.name c.class_of-class.result c.self.invariant (subst (λ (v : Chunks). IsLive v c.args.name) (sym c.self.view_is) c.requires) (c.class_of-class.ensures ∙ ap class_of c.len.ensures) c.link.new.blocks c.mark.new.blocks c.link.ensures c.mark.ensures

pub set_before-requires-clause-none_is : goal.set_before-requires-clause-none_is
set_before-requires-clause-none_is c = none_after c.self.inside.blocks c.self.inside.heads c.args.name c.class_of-class.result c.self.invariant (subst (λ (v : Chunks). IsLive v c.args.name) (sym c.self.view_is) c.requires) (c.class_of-class.ensures ∙ ap class_of c.len.ensures) c.link.new.blocks c.mark.new.blocks c.link.ensures c.mark.ensures

pub invariant_of-self : goal.invariant_of-self
invariant_of-self c = pushes c.self.inside.blocks c.self.inside.heads c.args.name c.class_of-class.result c.self.invariant (subst (λ (v : Chunks). IsLive v c.args.name) (sym c.self.view_is) c.requires) (c.class_of-class.ensures ∙ ap class_of c.len.ensures) c.link.new.blocks c.mark.new.blocks c.link.ensures c.mark.ensures c.set_before.new.blocks c.ranges.name.fits c.set_before.ensures.fits c.set_before.ensures.sets

pub returns : goal.returns
returns c = subst (λ (v : Chunks). Frees v c.set_before.new.blocks c.args.name) c.self.view_is (push_frees c.self.inside.blocks c.self.inside.heads c.args.name c.class_of-class.result c.self.invariant (subst (λ (v : Chunks). IsLive v c.args.name) (sym c.self.view_is) c.requires) (c.class_of-class.ensures ∙ ap class_of c.len.ensures) c.link.new.blocks c.mark.new.blocks c.link.ensures c.mark.ensures c.set_before.new.blocks c.ranges.name.fits c.set_before.ensures.fits c.set_before.ensures.sets)
