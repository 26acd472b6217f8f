use Rattle.std.proofs.Common.{sym, ap, ◌∙◌, subst}
use Rattle.vx_arena.specs.Free.{next_in}
use Rattle.vx_arena.specs.Text.{ArenaModel, StandsLive, next_at}
use Rattle.vx_arena.proofs.Chaining.{live_stands, named_payload}
use Rattle.vx_arena.proofs.arena.Arena.next.Goals as goal

pub next-requires : goal.next-requires
next-requires c = live_stands c.self.inside.blocks c.args.name (subst (λ (v : ArenaModel). StandsLive v.chunks c.args.name) (sym c.self.view_is) c.requires)

pub returns : goal.returns
returns c = c.next.ensures ∙ (ap next_in (named_payload c.self.inside.blocks c.args.name (subst (λ (v : ArenaModel). StandsLive v.chunks c.args.name) (sym c.self.view_is) c.requires)) ∙ ap (λ (v : ArenaModel). next_at v.chunks c.args.name) c.self.view_is)
