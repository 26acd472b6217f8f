use Rattle.std.proofs.Common.{[], ◌∷◌, sym, subst}
use Rattle.vx_arena.specs.Chunks.{Chunks}
use Rattle.vx_arena.specs.Free.{IsListed}
use Rattle.vx_arena.proofs.Starting.{listed_empty}
use Rattle.vx_arena.proofs.free.FreeBlocks.clear.Goals as goal

pub invariant_of-self : goal.invariant_of-self
invariant_of-self c = subst (λ (v : Chunks). IsListed v (18446744073709551615 ∷ 18446744073709551615 ∷ 18446744073709551615 ∷ 18446744073709551615 ∷ 18446744073709551615 ∷ 18446744073709551615 ∷ 18446744073709551615 ∷ 18446744073709551615 ∷ [])) (sym c.clear.ensures) listed_empty
