use Rattle.std.proofs.Common.{ℕ, subst}
use Rattle.vx_arena.specs.Text.{ArenaModel, IsChained, GivesAll}
use Rattle.vx_arena.proofs.Texts.{gives_count, gives_keeps}
use Rattle.vx_arena.proofs.arena.Arena.give_text.Goals as goal

pub returns-clause-given : goal.returns-clause-given
returns-clause-given c = gives_count c.args.self.now c.release.new.self c.args.at c.requires (subst (λ (n : ℕ). GivesAll c.args.self.now c.release.new.self n) c.name.ensures c.release.ensures)

pub returns-clause-keeps : goal.returns-clause-keeps
returns-clause-keeps c = gives_keeps c.args.self.now c.release.new.self c.args.at (subst (λ (v : ArenaModel). IsChained v.chunks) c.self.view_is c.self.invariant.chained) c.requires (subst (λ (n : ℕ). GivesAll c.args.self.now c.release.new.self n) c.name.ensures c.release.ensures)
