use Rattle.std.proofs.Common.{ap}
use Rattle.vx_rows.specs.Container.{ContainerModel, live}
use Rattle.vx_rows.proofs.RowLemmas.{live_parts}
use Rattle.vx_rows.proofs.ContainerLemmas.{held_body}
use Rattle.vx_rows.proofs.container.RowContainer.get.Goals as goal

pub cells-requires-clause-held : goal.cells-requires-clause-held
cells-requires-clause-held c =
    let s = c.self.inside in
    let row = live c.args.self.now c.args.row in
    let parts = live_parts s.arena s.columns s.layout s.records c.args.self.now.rows c.args.row row (ap (λ (m : ContainerModel). m.rows) c.self.view_is) c.requires in
    held_body s.arena s.arena s.columns s.layout s.records s.records s.empty.items s.scratch.items c.args.row row c.body-body.result.now c.self.invariant parts c.body-body.ensures.is
