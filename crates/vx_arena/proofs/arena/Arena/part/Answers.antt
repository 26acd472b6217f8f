use Rattle.std.proofs.Common.{◌≡◌, ℕ, List, ◌-◌, length, take, drop, sym, ap, ◌∙◌, subst}
use Rattle.vx_arena.specs.Names.{named}
use Rattle.vx_arena.specs.Text.{ArenaModel, StandsLive, part_at}
use Rattle.vx_arena.proofs.Chaining.{live_stands, named_payload}
use Rattle.vx_arena.proofs.Walking.{part_is}
use Rattle.vx_arena.proofs.arena.Arena.part.Goals as goal

pub len-requires : goal.len-requires
len-requires c = live_stands c.self.inside.blocks c.args.name (subst (λ (v : ArenaModel). StandsLive v.chunks c.args.name) (sym c.self.view_is) c.requires)

pub payload-requires-clause-live : goal.payload-requires-clause-live
payload-requires-clause-live c = live_stands c.self.inside.blocks c.args.name (subst (λ (v : ArenaModel). StandsLive v.chunks c.args.name) (sym c.self.view_is) c.requires)

pub returns : goal.returns
returns c =
    let long : c.from-len.result - 8 ≡ length (named c.self.inside.blocks c.args.name).payload - 8 = ap (λ (n : ℕ). n - 8) (c.from-len.ensures ∙ c.len.ensures.len) in
    c.payload.ensures ∙ (part_is (named c.self.inside.blocks c.args.name).payload (c.from-len.result - 8) c.min.result long c.min.ensures ∙ (ap (λ (p : List ℕ). take 2040 (drop 8 p)) (named_payload c.self.inside.blocks c.args.name (subst (λ (v : ArenaModel). StandsLive v.chunks c.args.name) (sym c.self.view_is) c.requires)) ∙ ap (λ (v : ArenaModel). part_at v.chunks c.args.name) c.self.view_is))
