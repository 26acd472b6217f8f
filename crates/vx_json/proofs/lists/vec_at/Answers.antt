use Rattle.serde_json.specs.View.{view}
use Rattle.vx_json.specs.Place.{path_of}
use Rattle.vx_json.proofs.ListLaws.{list_at-items}
use Rattle.vx_json.proofs.lists.vec_at.Goals as goal

pub returns : goal.returns
returns g c =
    rw (list_at-items c.args.count (g.R.Reads.reads c.args.reader.now) (path_of c.args.way.now) (view c.args.value.now) c.in_ok-values.values.now c.in_ok-values.ensures.items)
    c.each.ensures
