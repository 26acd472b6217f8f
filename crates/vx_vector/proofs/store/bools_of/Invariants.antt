use Rattle.std.proofs.Common.{◌≡◌, map, take}
use Rattle.vx_vector.specs.Store.{bool_in, bool_mark}
use Rattle.vx_vector.proofs.store.bools_of.Given as goal

abbrev pub invariant-loop-value : goal.invariant-loop-value
invariant-loop-value l = record {
  values : l.bools.items ≡ map bool_in (take l.value-index l.values);
  marks : l.marks.items ≡ map bool_mark (take l.value-index l.values);
}
