use Rattle.std.proofs.Common.{◌≡◌, ◌+◌, ◌<◌, ◌^◌, subst, arith}
use Rattle.vx_arena.specs.Names.{lives}
use Rattle.vx_arena.specs.Text.{ArenaModel}
use Rattle.vx_arena.proofs.Chains.{gives_none, gives_rest, has_live, gives_more}
use Rattle.vx_arena.proofs.arena.Arena.+release.Goals as goal

pub returns-then-name-eq-NONE : goal.returns-then-name-eq-NONE
returns-then-name-eq-NONE t c = gives_none c.args.self.now c.args.name (subst (λ (v : ArenaModel). v.given < 2 ^ 64) c.self.view_is c.self.invariant.fits) c.if-name-eq-NONE.true

pub give_part-behind-requires-clause-live : goal.give_part-behind-requires-clause-live
give_part-behind-requires-clause-live t c = has_live c.args.self.now.chunks c.args.name c.if-name-eq-NONE.false c.requires

pub release-requires : goal.release-requires
release-requires t c =
    let count : lives c.give_part-behind.new.self.chunks + 1 ≡ lives c.args.self.now.chunks = c.give_part-behind.ensures.count in
    (omega (arith, count, c.decreases), gives_rest c.args.self.now c.give_part-behind.new.self c.args.name c.give_part-behind.result c.if-name-eq-NONE.false c.requires c.give_part-behind.ensures)

pub returns : goal.returns
returns t c = gives_more c.args.self.now c.give_part-behind.new.self c.release.new.self c.args.name c.give_part-behind.result c.if-name-eq-NONE.false c.give_part-behind.ensures c.release.ensures
