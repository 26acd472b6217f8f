use Rattle.std.proofs.Common.{◌+◌, ◌≤◌, length, take, drop, ap, ◌∙◌, sym, subst}
use Rattle.vx_arena.specs.Block.{Block}
use Rattle.vx_arena.proofs.Naming.{named_at, named_is}
use Rattle.vx_arena.proofs.links.payload.Goals as goal

pub payload-requires-clause-there : goal.payload-requires-clause-there
payload-requires-clause-there c = named_at c.args.blocks.now c.args.name c.place.result c.place.ensures.is c.requires.there

pub payload-requires-clause-inside : goal.payload-requires-clause-inside
payload-requires-clause-inside c = subst (λ (b : Block). c.args.from + c.args.len ≤ length b.payload) (sym (named_is c.args.blocks.now c.args.name c.place.result c.place.ensures.is)) c.requires.inside

pub returns : goal.returns
returns c = c.payload.ensures ∙ ap (λ (b : Block). take c.args.len (drop c.args.from b.payload)) (named_is c.args.blocks.now c.args.name c.place.result c.place.ensures.is)
