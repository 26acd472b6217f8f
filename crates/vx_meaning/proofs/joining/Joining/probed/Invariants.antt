use Rattle.std.proofs.Common.{◌≡◌, take}
use Rattle.std.specs.Prelude.{filter, flat_map}
use Rattle.vx_meaning.specs.Joins.{given, matches}
use Rattle.vx_meaning.specs.JoinWords.{on_of}
use Rattle.vx_meaning.proofs.joining.Joining.probed.Given as goal

abbrev pub invariant-loop-row : goal.invariant-loop-row
invariant-loop-row l = l.rows.items ≡ flat_map (λ left. given l.self.kind (on_of l.self) left (filter (matches (on_of l.self) left) l.right)) (take l.row-index l.left)
