-- The stores that a host gives.
use Rattle.std.specs.Prelude.{◌≡◌, ℕ, true, None, IsSome}
use Rattle.vx_store.specs.Files.{bytes_at}
use Rattle.vx_store.specs.Store.{Tells}
use Rattle.vx_store.specs.Views.{StoreView}

-- a new store: no file was created and none is there, and no call has failed
pub record IsFreshStore (store : StoreView) : Type 0 where
  pub created : store.created ≡ 0
  pub faults : store.faults ≡ 0
  pub empty : Tells (λ files. (n : ℕ) → bytes_at files n ≡ None) store.files

-- a store that tells its files, and that no call of it is to fail
pub record IsSafeStore (store : StoreView) : Type 0 where
  pub unfailing : store.unfailing ≡ true
  pub told : IsSome store.files
