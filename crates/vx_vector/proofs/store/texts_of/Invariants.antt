use Rattle.std.proofs.Common.{◌≡◌, map, take}
use Rattle.vx_vector.specs.Store.{text_in}
use Rattle.vx_vector.proofs.store.texts_of.Given as goal

abbrev pub invariant-loop-value : goal.invariant-loop-value
invariant-loop-value l = l.texts ≡ map text_in (take l.value-index l.values)
