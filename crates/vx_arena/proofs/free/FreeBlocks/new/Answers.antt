use Rattle.std.proofs.Common.{[], ◌∷◌, sym, subst}
use Rattle.vx_arena.specs.Chunks.{Chunks}
use Rattle.vx_arena.specs.Free.{IsListed}
use Rattle.vx_arena.proofs.Starting.{listed_empty}
use Rattle.vx_arena.proofs.free.FreeBlocks.new.Goals as goal

pub invariant_of-result : goal.invariant_of-result
invariant_of-result c = subst (λ (v : Chunks). IsListed v (18446744073709551615 ∷ 18446744073709551615 ∷ 18446744073709551615 ∷ 18446744073709551615 ∷ 18446744073709551615 ∷ 18446744073709551615 ∷ 18446744073709551615 ∷ 18446744073709551615 ∷ [])) (sym c.new.ensures) listed_empty
