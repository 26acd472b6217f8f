use Rattle.std.proofs.Common.{◌≡◌, drop}
use Rattle.std.specs.List.{list_any}
use Rattle.vx_meaning.specs.Joins.{matches}
use Rattle.vx_meaning.specs.JoinWords.{on_of}
use Rattle.vx_meaning.proofs.joining.Joining.has_partner.Given as goal

abbrev pub invariant-loop-row : goal.invariant-loop-row
invariant-loop-row l = list_any (matches (on_of l.self) l.left) (drop l.row-index l.right) ≡ list_any (matches (on_of l.self) l.left) l.right
