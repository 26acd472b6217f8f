use Rattle.std.proofs.Common.{is_some, sym, ap, ◌∙◌}
use Rattle.vx_rows.specs.Container.{ContainerModel}
use Rattle.vx_rows.proofs.FieldLemmas.{found, live_test}
use Rattle.vx_rows.proofs.container.RowContainer.is_live.Goals as goal

pub returns : goal.returns
returns c =
    let s = c.self.inside in
    let same = live_test s.arena s.columns s.layout s.records c.args.self.now.rows c.args.row (ap (λ (m : ContainerModel). m.rows) c.self.view_is) in (
      λ is. found _ _ (sym same ∙ (sym c.is_live.ensures ∙ is)),
      λ live. c.is_live.ensures ∙ (same ∙ ap is_some live),
    )
