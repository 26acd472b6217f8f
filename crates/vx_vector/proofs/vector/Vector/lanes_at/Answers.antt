use Rattle.std.proofs.Common.{◌∙◌, sym}
use Rattle.vx_vector.proofs.ViewLemmas.{places_seen, held_rows, lent_rows}
use Rattle.vx_vector.proofs.vector.Vector.lanes_at.Goals as goal

pub lanes_at-requires-clause-places : goal.lanes_at-requires-clause-places
lanes_at-requires-clause-places c = places_seen c.self.inside.form c.args.self.now c.self.view_is c.args.rows.now c.requires

pub returns : goal.returns
returns c = held_rows c.self.inside.form c.args.self.now c.self.view_is c.args.rows.now c.in_ok-lanes.lanes c.settle.new.self c.in_ok-lanes.ensures c.settle.ensures c.requires

pub returns-then-not-has_fault : goal.returns-then-not-has_fault
returns-then-not-has_fault c = lent_rows c.in-Flat.lanes c.args.self.now (rw c.in-Flat.is at c.self.view_is) c.args.rows.now (c.are_all_of.ensures.0 c.if-are_all_of.true) (sym c.has_fault.ensures ∙ c.if-not-has_fault.true)
