use Rattle.std.proofs.Common.{◌≡◌, ℕ, ◌+◌, ◌%◌, ◌^◌, ◌≤◌, length, ap, ◌∙◌, sym, subst, arith}
use Rattle.vx_raw.specs.declared.place.Place.{Place}
use Rattle.vx_arena.specs.Block.{Block}
use Rattle.vx_arena.specs.Names.{name_of}
use Rattle.vx_arena.proofs.Naming.{named_at, named_is}
use Rattle.vx_arena.proofs.Parting.{splits}
use Rattle.vx_arena.proofs.links.split.Goals as goal

pub split-requires-clause-there : goal.split-requires-clause-there
split-requires-clause-there c = named_at c.args.blocks.now c.args.name c.place-at.result c.place-at.ensures.is c.requires.there

pub split-requires-clause-inside : goal.split-requires-clause-inside
split-requires-clause-inside c = subst (λ (b : Block). c.args.len + 8 ≤ length b.payload) (sym (named_is c.args.blocks.now c.args.name c.place-at.result c.place-at.ensures.is)) c.requires.inside

pub returns : goal.returns
returns c =
    let chunk : c.place-at.result.chunk ≡ c.args.name % 2 ^ 32 = ap (λ (p : Place). p.chunk) c.place-at.ensures.is in
    splits c.args.blocks.now c.split.new.self c.args.name c.name.result c.args.len c.place-at.result c.place-at.ensures.is (omega (arith, chunk)) c.requires.there c.requires.inside c.split.ensures.within
    (c.name.ensures ∙ ap (λ (n : ℕ). name_of (record { chunk = c.place-at.result.chunk; at = c.place-at.result.at + (8 + n) })) c.from.ensures) c.split.ensures.set
