use Rattle.vx_arena.proofs.Parts.{trims_cut}
use Rattle.vx_arena.proofs.part.trim.Goals as goal

pub returns-then-len : goal.returns-then-len
returns-then-len c = trims_cut c.args.blocks.now c.halve-rest.new.self c.push.new.self c.args.name c.halve-rest.result c.args.len c.len.ensures.some c.requires.live c.halve-rest.ensures c.push.ensures
