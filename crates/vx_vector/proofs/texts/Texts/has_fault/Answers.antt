use Rattle.std.proofs.Common.{◌∙◌, ap, sym}
use Rattle.std.specs.List.{list_any}
use Rattle.vx_vector.specs.Lane.{TextRow}
use Rattle.vx_vector.specs.Marks.{is_fault}
use Rattle.vx_vector.specs.declared.texts.Place.{Place}
use Rattle.vx_vector.proofs.TextLemmas.{any_placed}
use Rattle.vx_vector.proofs.texts.Texts.has_fault.Goals as goal

pub returns : goal.returns
returns c =
    c.place_has_fault.ensures ∙ ap (list_any (λ (p : Place). is_fault p.mark)) c.as_slice.ensures.value
    ∙ sym (any_placed c.self.inside.bytes.items c.self.inside.places.items) ∙ ap (list_any (λ (r : TextRow). is_fault r.mark)) c.self.view_is
