use Rattle.std.proofs.Common.{◌≡◌, ◌++◌, drop, map}
use Rattle.vx_meaning.specs.Joins.{alone, fresh}
use Rattle.vx_meaning.specs.JoinWords.{on_of}
use Rattle.vx_meaning.proofs.joining.Joining.push_alone.Given as goal

abbrev pub invariant-loop-row : goal.invariant-loop-row
invariant-loop-row l = l.rows.items ++ alone (on_of l.self) l.left (map fresh (drop l.row-index l.right)) ≡ l.initial.rows.items ++ alone (on_of l.self) l.left (map fresh l.right)
