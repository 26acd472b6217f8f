use Rattle.std.proofs.Common.{◌≡◌, map, take, []}
use Rattle.vx_vector.specs.Lane.{text_row}
use Rattle.vx_vector.specs.Index.{item_or}
use Rattle.vx_vector.proofs.texts.Texts.spread.Given as goal

abbrev pub invariant-loop-place : goal.invariant-loop-place
invariant-loop-place l = l.picked ≡ map (item_or l.self (text_row 1 [])) (take l.place-index l.index)
