-- What contracts see of a sink, and of the files that a host reads.
use Rattle.std.specs.Prelude.{ℕ, List, Bool, Option}

-- A sink: the bytes that it has taken so far, where it tells them, how many of its calls have failed, how many
-- wanted memory, and whether it tells that no call of it is still to fail.
pub record SinkView : Type 0 where
  pub taken : Option (List ℕ)
  pub faults : ℕ
  pub wants : ℕ
  pub unfailing : Bool

-- Files: what stands under a name, if anything, where the host tells it; how many reads have failed, and
-- whether the host tells that no read is still to fail but those of names that aren't there.
pub record FilesView : Type 0 where
  pub bytes_of : Option (List ℕ → Option (List ℕ))
  pub faults : ℕ
  pub unfailing : Bool
