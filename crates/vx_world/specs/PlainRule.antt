-- How a member that follows a script keeps its tree. No public clause cites this module.
use Rattle.std.specs.Prelude.{◌≡◌, ◌^◌, ◌≤◌, [], ◌∷◌, length, All}
use Rattle.vx_pool.specs.Pools.{Pools, IsTree, ahead_of}
use Rattle.vx_world.specs.Plain.{Plain}

-- a tree of a root and one leaf
pub record IsSmall (pools : Pools) : Type 0 where
  pub tree : IsTree pools
  pub shape : pools.parents ≡ 0 ∷ []

-- a small tree in which nothing is ahead between two steps, and a script of numbers that a leaf may be
-- asked for
pub record IsPlain (plain : Plain) : Type 0 where
  pub small : IsSmall plain.pools
  pub settled : ahead_of plain.pools 1 ≡ 0
  pub fits : All (λ bytes. bytes ≤ 2 ^ 33) plain.script
  pub within : plain.next ≤ length plain.script
