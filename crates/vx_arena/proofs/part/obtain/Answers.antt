use Rattle.vx_arena.proofs.Parts.{obtains_found, obtains_added}
use Rattle.vx_arena.proofs.part.obtain.Goals as goal

pub returns-in-Some-clause-ok : goal.returns-in-Some-clause-ok
returns-in-Some-clause-ok c = obtains_found c.args.class c.args.blocks.now c.find.new.blocks c.in-Some.name c.in-Some.ensures

pub returns-clause-ok : goal.returns-clause-ok
returns-clause-ok c = obtains_added c.args.class c.args.blocks.now c.find.new.blocks c.grow.new.self c.in_ok-name.name c.requires c.in_default.ensures c.in_ok-name.ensures.ok
