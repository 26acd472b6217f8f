use Rattle.std.proofs.Common.{◌≡◌, map, take}
use Rattle.vx_vector.specs.Store.{int_in, int_mark}
use Rattle.vx_vector.proofs.store.ints_of.Given as goal

abbrev pub invariant-loop-value : goal.invariant-loop-value
invariant-loop-value l = record {
  values : l.ints.items ≡ map int_in (take l.value-index l.values);
  marks : l.marks.items ≡ map int_mark (take l.value-index l.values);
}
