use Rattle.std.proofs.Common.{◌∙◌, ap}
use Rattle.vx_arena.specs.Chunks.{held_by}
use Rattle.vx_arena.proofs.Adding.{held_same}
use Rattle.vx_arena.proofs.blocks.Blocks.held.Goals as goal

pub returns-clause-is : goal.returns-clause-is
returns-clause-is c = c.held.ensures.is ∙ (held_same c.self.inside.region c.self.invariant ∙ ap held_by c.self.view_is)
