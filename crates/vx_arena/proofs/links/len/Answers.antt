use Rattle.std.proofs.Common.{length, ap, ◌∙◌}
use Rattle.vx_arena.specs.Block.{Block}
use Rattle.vx_arena.proofs.Naming.{named_at, named_is}
use Rattle.vx_arena.proofs.links.len.Goals as goal

pub len-requires : goal.len-requires
len-requires c = record { there = named_at c.args.blocks.now c.args.name c.place.result c.place.ensures.is c.requires }

pub returns : goal.returns
returns c = c.len.ensures.len ∙ ap (λ (b : Block). length b.payload) (named_is c.args.blocks.now c.args.name c.place.result c.place.ensures.is)
