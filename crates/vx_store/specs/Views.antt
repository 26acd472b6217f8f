-- What contracts see of a store.
use Rattle.std.specs.Prelude.{ℕ, Bool, Option}
use Rattle.vx_store.specs.Files.{Files}

-- A store: its files, where it tells them, how many files were created so far, how many of its calls have
-- failed, and whether it tells that no call of it is still to fail but reads past a file's end.
pub record StoreView : Type 0 where
  pub files : Option Files
  pub created : ℕ
  pub faults : ℕ
  pub unfailing : Bool
