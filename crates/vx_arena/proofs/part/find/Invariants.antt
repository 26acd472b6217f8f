use Rattle.std.proofs.Common.{◌≡◌}
use Rattle.vx_arena.proofs.Parts.{NoneOf}
use Rattle.vx_arena.proofs.part.find.Given as goal

abbrev pub invariant-loop-i : goal.invariant-loop-i
invariant-loop-i l = record { same : l.blocks ≡ l.fn.blocks; none : NoneOf l.fn.blocks l.class l.i }
