use Rattle.std.proofs.Common.{◌≡◌, take}
use Rattle.vx_value.specs.Value.{owned, IsLawful}
use Rattle.vx_meaning.specs.Folds.{fold_of}
use Rattle.vx_meaning.specs.Picks.{pick_name}
use Rattle.vx_meaning.proofs.picking.Pick.over.Given as goal

abbrev pub invariant-loop-row : goal.invariant-loop-row
invariant-loop-row l = record {
  value : owned l.picked ≡ fold_of l.fn.step (record { name = pick_name l.self; column = l.column }) (take l.row-index l.rows);
  lawful : IsLawful (owned l.picked);
}
