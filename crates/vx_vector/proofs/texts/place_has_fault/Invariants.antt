use Rattle.std.proofs.Common.{◌≡◌, take, false}
use Rattle.std.specs.List.{list_any}
use Rattle.vx_vector.specs.Marks.{is_fault}
use Rattle.vx_vector.specs.declared.texts.Place.{Place}
use Rattle.vx_vector.proofs.texts.place_has_fault.Given as goal

abbrev pub invariant-loop-place : goal.invariant-loop-place
invariant-loop-place l = list_any (λ (p : Place). is_fault p.mark) (take l.place-index l.places) ≡ false
