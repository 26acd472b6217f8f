-- What the fields of a `Tree` mean. No public clause cites this module.
use Rattle.vx_pool.specs.Pools.{Pools}
use Rattle.vx_pool.specs.declared.pools.Tree.TheInside.{Inside}

-- the tree that contracts see; the sums in `reserved` follow from it
abbrev pub pools_of : {L : Type 0} → Inside L → Pools
pools_of tree = record {
  unit = tree.unit;
  parents = tree.parents.items;
  used = tree.used.items;
  ahead = tree.ahead.items;
  capacity = tree.capacity;
  peak = tree.peak;
}
