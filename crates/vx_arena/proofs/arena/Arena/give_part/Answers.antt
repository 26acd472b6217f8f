use Rattle.std.proofs.Common.{sym, subst}
use Rattle.vx_arena.specs.Text.{ArenaModel, StandsLive, IsUnnamed, GivesPart, more}
use Rattle.vx_arena.proofs.Chaining.{live_stands}
use Rattle.vx_arena.proofs.PartSteps.{part_given, arena_less}
use Rattle.vx_arena.proofs.arena.Arena.give_part.Goals as goal

pub next-next-requires : goal.next-next-requires
next-next-requires c = live_stands c.self.inside.blocks c.args.name (subst (λ (v : ArenaModel). StandsLive v.chunks c.args.name) (sym c.self.view_is) c.requires.live)

pub push-requires : goal.push-requires
push-requires c = live_stands c.self.inside.blocks c.args.name (subst (λ (v : ArenaModel). StandsLive v.chunks c.args.name) (sym c.self.view_is) c.requires.live)

pub invariant_of-self : goal.invariant_of-self
invariant_of-self c = arena_less c.self.inside.blocks c.push.new.self c.args.name c.next-next.result c.self.inside.taken c.self.inside.given (subst (λ (v : ArenaModel). StandsLive v.chunks c.args.name) (sym c.self.view_is) c.requires.live) (subst (λ (v : ArenaModel). IsUnnamed v.chunks c.args.name) (sym c.self.view_is) c.requires.first) c.requires.some c.next-next.ensures c.push.ensures c.self.invariant

pub returns : goal.returns
returns c = subst (λ (v : ArenaModel). GivesPart v (record { chunks = c.push.new.self; taken = c.self.inside.taken; given = more c.self.inside.given 1 }) c.args.name c.next-next.result) c.self.view_is (part_given c.self.inside.blocks c.push.new.self c.args.name c.next-next.result c.self.inside.taken c.self.inside.given (subst (λ (v : ArenaModel). StandsLive v.chunks c.args.name) (sym c.self.view_is) c.requires.live) (subst (λ (v : ArenaModel). IsUnnamed v.chunks c.args.name) (sym c.self.view_is) c.requires.first) c.requires.some c.next-next.ensures c.push.ensures c.self.invariant)
