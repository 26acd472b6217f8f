use Rattle.std.proofs.Common.{◌≤◌, arith}
use Rattle.vx_arena.specs.Free.{class_len}
use Rattle.vx_arena.proofs.Classes.{class_len_least, class_len_most}
use Rattle.vx_arena.proofs.Parts.{takes}
use Rattle.vx_arena.proofs.part.take.Goals as goal

pub trim-requires-clause-least : goal.trim-requires-clause-least
trim-requires-clause-least c = let least : 16 ≤ class_len c.args.class = class_len_least c.args.class c.requires in omega (arith, least, c.class_len.ensures)

pub trim-requires-clause-most : goal.trim-requires-clause-most
trim-requires-clause-most c = let most : class_len c.args.class ≤ 2048 = class_len_most c.args.class c.requires in omega (arith, most, c.class_len.ensures)

pub returns-clause-ok : goal.returns-clause-ok
returns-clause-ok c = takes c.args.class c.args.blocks.now c.obtain.new.blocks c.trim.new.blocks c.in_ok-name.name c.class_len.result c.requires c.class_len.ensures c.in_ok-name.ensures.ok c.trim.ensures
