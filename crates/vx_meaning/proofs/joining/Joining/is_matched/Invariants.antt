use Rattle.std.proofs.Common.{◌≡◌, drop}
use Rattle.std.specs.List.{list_any}
use Rattle.vx_meaning.specs.Joins.{matches}
use Rattle.vx_meaning.specs.JoinWords.{on_of}
use Rattle.vx_meaning.proofs.joining.Joining.is_matched.Given as goal

abbrev pub invariant-loop-row : goal.invariant-loop-row
invariant-loop-row l = list_any (λ row. matches (on_of l.self) row l.right) (drop l.row-index l.left) ≡ list_any (λ row. matches (on_of l.self) row l.right) l.left
