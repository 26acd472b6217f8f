use Rattle.std.proofs.Common.{◌≡◌, ◌++◌, drop}
use Rattle.std.specs.Prelude.{filter}
use Rattle.vx_meaning.specs.Joins.{pairs, matches}
use Rattle.vx_meaning.specs.JoinWords.{on_of}
use Rattle.vx_meaning.proofs.joining.Joining.push_pairs.Given as goal

abbrev pub invariant-loop-row : goal.invariant-loop-row
invariant-loop-row l = l.rows.items ++ pairs l.left (filter (matches (on_of l.self) l.left) (drop l.row-index l.right)) ≡ l.initial.rows.items ++ pairs l.left (filter (matches (on_of l.self) l.left) l.right)
