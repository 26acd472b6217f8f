-- The tree that is measured.
use Rattle.std.specs.Prelude.{◌≡◌, ℕ, ◌<◌, List, length, slice_index}
use Rattle.vx_pool.specs.Pools.{Pools, IsShape, used_of}

-- 64 nodes, of which no child has a parent from node 22 on
pub record IsForest (parents : List ℕ) : Type 0 where
  pub size : length parents ≡ 63
  pub shape : IsShape parents
  pub above : (i : ℕ) → i < length parents → slice_index parents i < 22

-- no leaf uses anything
abbrev pub IsIdle : Pools → Type 0
IsIdle pools = (node : ℕ) → used_of pools node ≡ 0
