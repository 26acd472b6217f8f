use Rattle.std.proofs.Common.{length, ap}
use Rattle.vx_arena.proofs.Naming.{named_at}
use Rattle.vx_arena.proofs.Linking.{bytes_fit, sets_before}
use Rattle.vx_arena.proofs.links.set_before.Goals as goal

pub write-requires-clause-there : goal.write-requires-clause-there
write-requires-clause-there c = named_at c.args.blocks.now c.args.name c.place.result c.place.ensures.is (c.requires.there c.if-name-eq-NONE.false)

pub write-requires-clause-inside : goal.write-requires-clause-inside
write-requires-clause-inside c = bytes_fit c.args.blocks.now c.args.name 8 8 c.place.result c.to_le_bytes.result c.place.ensures.is (ap length c.to_le_bytes.ensures) (c.requires.long c.if-name-eq-NONE.false)

pub returns-clause-sets : goal.returns-clause-sets
returns-clause-sets c = sets_before c.args.blocks.now c.write.new.self c.args.name c.args.before c.place.result c.to_le_bytes.result c.place.ensures.is c.if-name-eq-NONE.false (c.requires.there c.if-name-eq-NONE.false) (c.requires.long c.if-name-eq-NONE.false) c.to_le_bytes.ensures c.write.ensures.set
