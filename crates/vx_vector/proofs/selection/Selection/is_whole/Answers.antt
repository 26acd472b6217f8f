use Rattle.std.proofs.Common.{◌≡◌, length, subst}
use Rattle.std.specs.List.{range_with_len}
use Rattle.vx_vector.proofs.SelectionLemmas.{own_place}
use Rattle.vx_vector.proofs.selection.Selection.is_whole.Goals as goal

pub returns-clause-each : goal.returns-clause-each
returns-clause-each c h = own_place _ _ (subst (λ l. l ≡ range_with_len 0 (length l)) c.self.view_is (c.self.invariant.each.0 h))
