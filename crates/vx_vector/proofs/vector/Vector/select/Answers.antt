use Rattle.vx_vector.proofs.ViewLemmas.{places_seen, selected}
use Rattle.vx_vector.proofs.vector.Vector.select.Goals as goal

pub select-requires-clause-places : goal.select-requires-clause-places
select-requires-clause-places c = places_seen c.self.inside.form c.args.self.now c.self.view_is c.args.rows.now c.requires

pub returns : goal.returns
returns c = selected c.self.inside.form c.in_ok-form.form c.args.self.now c.self.view_is c.args.rows.now c.in_ok-form.ensures.kind c.in_ok-form.ensures.values c.requires
