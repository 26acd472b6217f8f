use Rattle.std.proofs.Common.{◌≡◌, map, take}
use Rattle.vx_vector.specs.Index.{item_or}
use Rattle.vx_vector.proofs.gather.gathered_or.Given as goal

abbrev pub invariant-loop-place : goal.invariant-loop-place
invariant-loop-place g l = l.picked.items ≡ map (item_or l.from l.other) (take l.place-index l.index)
