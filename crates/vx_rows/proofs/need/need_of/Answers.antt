use Rattle.std.proofs.Common.{◌≤◌, length, subst, sym, ap, ◌∙◌, List}
use Rattle.vx_vector.specs.Batch.{BatchModel}
use Rattle.vx_vector.specs.Column.{Column}
use Rattle.vx_rows.proofs.NeedLemmas.{few_columns}
use Rattle.vx_rows.proofs.need.need_of.Goals as goal

pub texts_cost-cost-requires-clause-few : goal.texts_cost-cost-requires-clause-few
texts_cost-cost-requires-clause-few c =
    subst (λ (l : List Column). length l ≤ 511) (sym (c.deref.ensures.value ∙ ap (λ (b : BatchModel). b.columns) c.batch.view_is)) (few_columns c.args.layout.now c.args.batch.now.columns c.bytes-bytes.result c.requires c.bytes-bytes.ensures.is c.bytes-bytes.ensures.most)
