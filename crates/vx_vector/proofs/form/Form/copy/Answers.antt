use Rattle.std.proofs.Common.{◌≡◌, ◌∙◌, All}
use Rattle.vx_vector.specs.Lanes.{kind_of, rows_of, lane_at, AreLanes}
use Rattle.vx_vector.specs.Index.{IsIn}
use Rattle.vx_vector.proofs.FormLemmas.{copied_dictionary}
use Rattle.vx_vector.proofs.form.Form.copy.Goals as goal

pub returns-in_ok-copy-in-Dictionary-clause-values : goal.returns-in_ok-copy-in-Dictionary-clause-values
returns-in_ok-copy-in-Dictionary-clause-values c =
    let are : AreLanes (kind_of c.in-Dictionary.base) (rows_of c.in-Dictionary.base) (lane_at c.in-Dictionary.base) c.in_ok-copy-in-Dictionary.field-0 = c.in_ok-copy-in-Dictionary.ensures in
    let same : c.in_ok-index-in-Dictionary.index.items ≡ c.in-Dictionary.index.items = c.in_ok-index-in-Dictionary.ensures.items ∙ c.as_slice.ensures.value in
    let within : All (IsIn (rows_of c.in-Dictionary.base)) c.in-Dictionary.index.items = rw c.in-Dictionary.is at c.requires in
    rw c.in-Dictionary.is (copied_dictionary c.in-Dictionary.base c.in_ok-copy-in-Dictionary.field-0 c.in-Dictionary.index.items c.in_ok-index-in-Dictionary.index.items are same within)
