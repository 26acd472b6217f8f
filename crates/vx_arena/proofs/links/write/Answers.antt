use Rattle.std.proofs.Common.{◌+◌, ◌≤◌, length, sym, subst}
use Rattle.vx_arena.specs.Block.{Block}
use Rattle.vx_arena.proofs.Naming.{named_at, named_is}
use Rattle.vx_arena.proofs.Linking.{wrote_bytes}
use Rattle.vx_arena.proofs.links.write.Goals as goal

pub write-requires-clause-there : goal.write-requires-clause-there
write-requires-clause-there c = named_at c.args.blocks.now c.args.name c.place.result c.place.ensures.is c.requires.there

pub write-requires-clause-inside : goal.write-requires-clause-inside
write-requires-clause-inside c = subst (λ (b : Block). c.args.to + length c.args.from.now ≤ length b.payload) (sym (named_is c.args.blocks.now c.args.name c.place.result c.place.ensures.is)) c.requires.inside

pub returns : goal.returns
returns c = wrote_bytes c.args.blocks.now c.write.new.self c.args.name c.args.to c.place.result c.args.from.now c.place.ensures.is c.requires.there c.requires.inside c.write.ensures.set
