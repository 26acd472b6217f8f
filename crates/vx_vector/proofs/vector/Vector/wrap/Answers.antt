use Rattle.vx_vector.proofs.ViewLemmas.{places_seen}
use Rattle.vx_vector.proofs.vector.Vector.wrap.Goals as goal

pub wrap-requires-clause-places : goal.wrap-requires-clause-places
wrap-requires-clause-places c = places_seen c.self.inside.form c.args.self c.self.view_is c.args.indices.now c.requires.places
