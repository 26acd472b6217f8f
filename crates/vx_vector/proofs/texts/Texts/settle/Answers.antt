use Rattle.vx_vector.proofs.TextLemmas.{settled_rows, settled_all_placed}
use Rattle.vx_vector.proofs.texts.Texts.settle.Goals as goal

pub invariant_of-self : goal.invariant_of-self
invariant_of-self c = rw c.settle_places.ensures (settled_all_placed c.self.inside.bytes.items c.self.inside.places.items c.self.invariant)

pub returns : goal.returns
returns c = rw (c.settle_places.ensures, ← c.self.view_is) (settled_rows c.self.inside.bytes.items c.self.inside.places.items)
