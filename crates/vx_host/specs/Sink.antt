-- What a write does to a sink.
use Rattle.std.specs.Prelude.{◌≡◌, ℕ, ◌<◌, ◌≤◌, List, length, take, true, Option, Result, IsErrOf}
use Rattle.vx_base.specs.Told.{gained}
use Rattle.vx_host.specs.Views.{SinkView}
use Rattle.vx_host.specs.declared.error.SinkError.{SinkError}
use Rattle.vx_host.specs.declared.error.SinkError.TheVariants.{Failed}

-- a write took the first `count` bytes of the piece: at least one, if there is one
pub record Takes (before after : SinkView) (piece : List ℕ) (count : ℕ) : Type 0 where
  pub within : count ≤ length piece
  pub some : 0 < length piece → 0 < count
  pub front : after.taken ≡ gained before.taken (take count piece)

-- the content gained a front of the piece that isn't the whole, maybe nothing
pub record GainsPart (before now : Option (List ℕ)) (piece : List ℕ) : Type 0 where
  pub count : ℕ
  pub short : count < length piece
  pub front : now ≡ gained before (take count piece)

-- a sink that tells that no call is still to fail didn't fail, and tells so afterwards
pub record StaysUnfailing {T : Type 0} (before after : SinkView) (result : Result T SinkError) : Type 0 where
  pub unfailing : before.unfailing ≡ true → after.unfailing ≡ true
  pub not_failed : before.unfailing ≡ true → IsErrOf result Failed → ⊥
