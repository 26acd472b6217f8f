use Rattle.std.proofs.Common.{◌+◌, ◌≤◌, length, sym, subst}
use Rattle.vx_arena.specs.Chunks.{Chunks}
use Rattle.vx_arena.specs.Names.{named}
use Rattle.vx_arena.specs.Free.{IsLive, Halves}
use Rattle.vx_arena.proofs.Steps.{named_live}
use Rattle.vx_arena.proofs.Keeping.{halved_listed, halved}
use Rattle.vx_arena.proofs.Linking.{named_from}
use Rattle.vx_arena.proofs.free.FreeBlocks.halve.Goals as goal

pub split-rest-requires-clause-there : goal.split-rest-requires-clause-there
split-rest-requires-clause-there c = named_live c.self.inside.blocks c.args.name (subst (λ (v : Chunks). IsLive v c.args.name) (sym c.self.view_is) c.requires.live)

pub mark-requires : goal.mark-requires
mark-requires c = named_from c.split-rest.new.blocks c.split-rest.result _ c.split-rest.ensures.second

pub invariant_of-self : goal.invariant_of-self
invariant_of-self c = halved_listed c.self.inside.blocks c.split-rest.new.blocks c.mark.new.blocks c.self.inside.heads c.args.name c.split-rest.result c.args.len c.self.invariant (subst (λ (v : Chunks). IsLive v c.args.name) (sym c.self.view_is) c.requires.live) c.requires.least (subst (λ (v : Chunks). c.args.len + 24 ≤ length (named v c.args.name).payload) (sym c.self.view_is) c.requires.inside) c.split-rest.ensures c.mark.ensures

pub returns : goal.returns
returns c = subst (λ (v : Chunks). Halves v c.mark.new.blocks c.args.name c.split-rest.result c.args.len) c.self.view_is (halved c.self.inside.blocks c.split-rest.new.blocks c.mark.new.blocks c.self.inside.heads c.args.name c.split-rest.result c.args.len c.self.invariant (subst (λ (v : Chunks). IsLive v c.args.name) (sym c.self.view_is) c.requires.live) c.requires.least (subst (λ (v : Chunks). c.args.len + 24 ≤ length (named v c.args.name).payload) (sym c.self.view_is) c.requires.inside) c.split-rest.ensures c.mark.ensures)
