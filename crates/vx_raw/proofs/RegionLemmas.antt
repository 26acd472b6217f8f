-- What a chunk's shedding does to the count of bytes, and when numbers start anew.
use Rattle.std.proofs.Common.{◌≡◌, ◌≢◌, ℕ, ◌+◌, ◌<◌, [], length, set, get_or, refl, arith}
use Rattle.std.proofs.lemmas.Grind.{common_steps}
use Rattle.std.proofs.lemmas.List.Sums.{sum_by-set}
use Rattle.vx_raw.specs.Region.{RegionModel, bytes_held, anew}

-- the other chunks' bytes stay
pub bytes_held-shed : (chunks : RegionModel) (number : ℕ) → number < length chunks → bytes_held (set chunks number []) + length (get_or chunks number []) ≡ bytes_held chunks
bytes_held-shed chunks number there = grind (arith, sum_by-set length chunks number [] [] there)

pub anew_none : (chunks : RegionModel) → bytes_held chunks ≡ 0 → anew chunks ≡ []
anew_none chunks none = rw none refl

pub anew_some : (chunks : RegionModel) → bytes_held chunks ≢ 0 → anew chunks ≡ chunks
anew_some chunks some = grind (arith, common_steps)

pub ruleset shedding = (bytes_held-shed, anew_none, anew_some)
