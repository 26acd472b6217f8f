use Rattle.std.proofs.Common.{length}
use Rattle.vx_arena.proofs.arena.Arena.+store.Given as goal

abbrev pub decreases-store : goal.decreases-store
decreases-store l = length l.text.now
