-- Plain facts of the calls of limits, orders and first rows, from which follows what they keep.
use Rattle.std.specs.Prelude.{◌≡◌, ◌≢◌, ℕ, ◌-◌, true, List, ◌++◌, take, drop, length, All, IsPermutation}
use Rattle.std.specs.declared.cmp.Ordering.TheVariants.{Less}
use Rattle.vx_value.specs.declared.sorting.SortKey.{SortKey}
use Rattle.vx_value.specs.Order.{IsSortedBy, cmp_rows}
use Rattle.vx_value.specs.Row.{Row}
use Rattle.vx_rest.specs.Held.{Held}
use Rattle.vx_rest.specs.JoinCalls.{StaysEnded}

-- a limit takes a batch: its rows at the places that count are held
pub record LimitTakes (old new : Held) (taken : List Row) : Type 0 where
  pub rows : new.rows ≡ old.rows ++ take old.left (drop old.skip taken)
  pub skip : new.skip ≡ old.skip - length taken
  pub left : new.left ≡ old.left - length (drop old.skip taken)

-- and gives some of the rows that it holds
pub record LimitGives (old new : Held) (put : List Row) : Type 0 where
  pub rows : old.rows ≡ put ++ new.rows
  pub skip : new.skip ≡ old.skip
  pub left : new.left ≡ old.left

-- Rows are taken in, in any order. With none taken this is an end, a merge or a reclaim.
pub record TakesRows (old new : Held) (taken : List Row) : Type 0 where
  pub ends : StaysEnded old.ended new.ended taken
  pub same : IsPermutation (old.rows ++ taken) new.rows

-- Rows are given that are in order, none of them behind one that is left.
pub record GivesFirst (keys : List SortKey) (old new : Held) (put : List Row) : Type 0 where
  pub ended : new.ended ≡ true
  pub same : IsPermutation old.rows (put ++ new.rows)
  pub sorted : IsSortedBy keys put
  pub first : All (λ row. All (λ later. cmp_rows keys later row ≢ Less) new.rows) put

-- The call after which a top-n gives no more: the other rows may go, also those in files.
pub record GivesLast (keys : List SortKey) (old new : Held) (put rest : List Row) : Type 0 where
  pub ended : new.ended ≡ true
  pub left : new.left ≡ 0
  pub count : old.left ≡ length put
  pub same : IsPermutation old.rows (put ++ rest)
  pub sorted : IsSortedBy keys put
  pub first : All (λ row. All (λ later. cmp_rows keys later row ≢ Less) rest) put
