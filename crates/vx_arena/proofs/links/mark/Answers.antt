use Rattle.std.proofs.Common.{refl}
use Rattle.vx_arena.specs.Block.{Block}
use Rattle.vx_arena.proofs.Naming.{named_at, changes_at}
use Rattle.vx_arena.proofs.links.mark.Goals as goal

pub set_live-requires : goal.set_live-requires
set_live-requires c = record { there = named_at c.args.blocks.now c.args.name c.place.result c.place.ensures.is c.requires }

pub returns : goal.returns
returns c = changes_at (λ (b : Block). record { live = c.args.live; payload = b.payload }) c.args.blocks.now c.set_live.new.self c.args.name c.place.result c.place.ensures.is c.requires refl c.set_live.ensures.set
