use Rattle.std.proofs.Common.{◌≡◌, ◌∙◌, sym, subst, ap, List, ℕ}
use Rattle.vx_rows.specs.Container.{ContainerModel}
use Rattle.vx_vector.specs.Batch.{BatchModel, kinds_of}
use Rattle.vx_vector.specs.Column.{Column}
use Rattle.vx_row_rounds.specs.Rounds.{AreKept, AreTwo}
use Rattle.vx_row_rounds.proofs.ColumnLemmas.{two_kinds}
use Rattle.vx_row_rounds.proofs.KeptLemmas.{kept_none}
use Rattle.vx_row_rounds.proofs.rounds.Rounds.new.Goals as goal

pub invariant_of-result : goal.invariant_of-result
invariant_of-result c = record {
  kept = subst (λ (l : List ℕ). AreKept c.in_ok-container.container.rows l) (sym c.new-2.ensures.items) (kept_none c.in_ok-container.container.rows);
  kinds =
      let inside : c.batch.inside.columns.items ≡ c.in_ok-batch.batch.columns = ap (λ (b : BatchModel). b.columns) c.batch.view_is in
      subst (λ (columns : List Column). kinds_of columns ≡ c.in_ok-container.container.kinds) inside
      (two_kinds c.batch.inside.columns.items c.index.result.now c.index-2.result.now c.kind.result c.kind-2.result (subst AreTwo (sym inside) c.in_ok-batch.ensures.kinds) c.index.ensures c.index-2.ensures c.kind.ensures c.kind-2.ensures
      ∙ sym (ap (λ (m : ContainerModel). m.kinds) c.in_ok-container.ensures));
  rows = c.in_ok-batch.ensures.rows;
  two = c.in_ok-batch.ensures.kinds;
}
