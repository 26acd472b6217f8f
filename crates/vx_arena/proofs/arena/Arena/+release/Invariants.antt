use Rattle.vx_arena.specs.Names.{lives}
use Rattle.vx_arena.proofs.arena.Arena.+release.Given as goal

abbrev pub decreases-release : goal.decreases-release
decreases-release l = lives l.self.now.chunks
