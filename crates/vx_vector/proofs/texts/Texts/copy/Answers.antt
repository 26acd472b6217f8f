use Rattle.vx_vector.proofs.texts.Texts.copy.Goals as goal

pub invariant_of-result : goal.invariant_of-result
invariant_of-result c = rw (c.in_ok-from_slice.ensures.items, c.as_slice.ensures.value, c.in_ok-from_slice-2.ensures.items, c.as_slice-2.ensures.value) c.self.invariant
