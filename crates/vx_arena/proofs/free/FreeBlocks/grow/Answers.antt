use Rattle.std.proofs.Common.{subst}
use Rattle.vx_arena.specs.Chunks.{Chunks}
use Rattle.vx_arena.specs.Free.{Grows}
use Rattle.vx_arena.proofs.Keeping.{grown_listed, grown}
use Rattle.vx_arena.proofs.Linking.{named_from}
use Rattle.vx_arena.proofs.free.FreeBlocks.grow.Goals as goal

pub mark-requires : goal.mark-requires
mark-requires c = named_from c.add.new.blocks c.in_ok-name.name _ c.in_ok-name.ensures.ok.there

pub invariant_of-self-2 : goal.invariant_of-self-2
invariant_of-self-2 c = grown_listed c.self.inside.blocks c.add.new.blocks c.mark.new.blocks c.self.inside.heads c.in_ok-name.name c.self.invariant c.in_ok-name.ensures.ok c.mark.ensures

pub returns-clause-ok : goal.returns-clause-ok
returns-clause-ok c = subst (λ (v : Chunks). Grows v c.mark.new.blocks c.in_ok-name.name) c.self.view_is (grown c.self.inside.blocks c.add.new.blocks c.mark.new.blocks c.self.inside.heads c.in_ok-name.name c.self.invariant c.in_ok-name.ensures.ok c.mark.ensures)
