use Rattle.std.proofs.Common.{◌≡◌, length, ◌∙◌, arith}
use Rattle.vx_arena.proofs.Parting.{adds}
use Rattle.vx_arena.proofs.links.add.Goals as goal

pub returns-clause-ok : goal.returns-clause-ok
returns-clause-ok c =
    let is : c.from.result ≡ length c.args.blocks.now = c.from.ensures ∙ c.in_ok-chunk.ensures.number in
    adds c.args.blocks.now c.add.new.self c.from.result is (omega (arith, is, c.requires.number)) c.in_ok-chunk.ensures.ok
