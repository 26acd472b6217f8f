use Rattle.std.proofs.Common.{◌≡◌, ◌-◌, ◌+◌, ℕ, length}
use Rattle.vx_page.specs.Sealed.{kept_of, seals_of}
use Rattle.vx_page.proofs.seals.reach.Given as goal

abbrev pub invariant-loop-alloc : goal.invariant-loop-alloc
invariant-loop-alloc l = (n : ℕ) → seals_of (kept_of l.files.items) n ≡ seals_of (kept_of l.initial.files.items) n

abbrev pub decreases-loop-alloc : goal.decreases-loop-alloc
decreases-loop-alloc l = l.file + 1 - length l.files.items
