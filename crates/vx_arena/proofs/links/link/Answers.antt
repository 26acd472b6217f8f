use Rattle.std.proofs.Common.{length, ap}
use Rattle.vx_arena.proofs.Naming.{named_at}
use Rattle.vx_arena.proofs.Linking.{bytes_fit, links}
use Rattle.vx_arena.proofs.links.link.Goals as goal

pub write-requires-clause-there : goal.write-requires-clause-there
write-requires-clause-there c = named_at c.args.blocks.now c.args.name c.place.result c.place.ensures.is c.requires.there

pub write-requires-clause-inside : goal.write-requires-clause-inside
write-requires-clause-inside c = bytes_fit c.args.blocks.now c.args.name 0 16 c.place.result c.pair.result c.place.ensures.is (ap length c.pair.ensures) c.requires.long

pub returns : goal.returns
returns c = links c.args.blocks.now c.write.new.self c.args.name c.args.next c.args.before c.place.result c.pair.result c.place.ensures.is c.requires.there c.requires.long c.pair.ensures c.write.ensures.set
