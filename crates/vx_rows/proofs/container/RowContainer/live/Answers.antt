use Rattle.std.proofs.Common.{ap, ◌∙◌}
use Rattle.vx_rows.specs.Container.{ContainerModel}
use Rattle.vx_rows.proofs.FieldLemmas.{live_seen}
use Rattle.vx_rows.proofs.ResultLemmas.{ok_weaker}
use Rattle.vx_rows.proofs.container.RowContainer.live.Goals as goal

pub returns : goal.returns
returns c =
    let s = c.self.inside in
    let seen_as = live_seen s.arena s.columns s.layout s.records c.args.self.now.rows (ap (λ (m : ContainerModel). m.rows) c.self.view_is) in
    ok_weaker c.live_records.result _ _ (λ v is. is ∙ seen_as) c.live_records.ensures
