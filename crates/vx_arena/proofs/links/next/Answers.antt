use Rattle.std.proofs.Common.{◌≤◌, length, ap, ◌∙◌, subst, sym}
use Rattle.vx_arena.specs.Block.{Block}
use Rattle.vx_arena.specs.Free.{next_in}
use Rattle.vx_arena.proofs.Naming.{named_at, named_is}
use Rattle.vx_arena.proofs.links.next.Goals as goal

pub next_at-requires-clause-there : goal.next_at-requires-clause-there
next_at-requires-clause-there c = named_at c.args.blocks.now c.args.name c.place.result c.place.ensures.is c.requires.there

pub next_at-requires-clause-long : goal.next_at-requires-clause-long
next_at-requires-clause-long c = subst (λ (b : Block). 8 ≤ length b.payload) (sym (named_is c.args.blocks.now c.args.name c.place.result c.place.ensures.is)) c.requires.long

pub returns : goal.returns
returns c = c.next_at.ensures ∙ ap (λ (b : Block). next_in b.payload) (named_is c.args.blocks.now c.args.name c.place.result c.place.ensures.is)
