use Rattle.std.proofs.Common.{◌+◌, ◌≤◌, length, sym, subst}
use Rattle.vx_raw.specs.Region.{written}
use Rattle.vx_arena.specs.Chunks.{Chunks}
use Rattle.vx_arena.specs.Names.{named}
use Rattle.vx_arena.specs.Free.{IsLive, Writes}
use Rattle.vx_arena.proofs.Steps.{named_live}
use Rattle.vx_arena.proofs.Keeping.{written_listed, written_writes}
use Rattle.vx_arena.proofs.free.FreeBlocks.write.Goals as goal

pub write-requires-clause-there : goal.write-requires-clause-there
write-requires-clause-there c = named_live c.self.inside.blocks c.args.name (subst (λ (v : Chunks). IsLive v c.args.name) (sym c.self.view_is) c.requires.live)

pub invariant_of-self : goal.invariant_of-self
invariant_of-self c = written_listed c.self.inside.blocks c.write.new.blocks c.self.inside.heads c.args.name c.args.to c.args.from.now c.self.invariant (subst (λ (v : Chunks). IsLive v c.args.name) (sym c.self.view_is) c.requires.live) (subst (λ (v : Chunks). c.args.to + length c.args.from.now ≤ length (named v c.args.name).payload) (sym c.self.view_is) c.requires.inside) c.write.ensures

pub returns : goal.returns
returns c = subst (λ (v : Chunks). Writes v c.write.new.blocks c.args.name (written (named v c.args.name).payload c.args.to c.args.from.now)) c.self.view_is (written_writes c.self.inside.blocks c.write.new.blocks c.self.inside.heads c.args.name c.args.to c.args.from.now c.self.invariant (subst (λ (v : Chunks). IsLive v c.args.name) (sym c.self.view_is) c.requires.live) (subst (λ (v : Chunks). c.args.to + length c.args.from.now ≤ length (named v c.args.name).payload) (sym c.self.view_is) c.requires.inside) c.write.ensures)
