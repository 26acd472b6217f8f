use Rattle.std.proofs.Common.{◌≡◌, take, arith, subst, ap, ◌∙◌, take_all}
use Rattle.std.proofs.lemmas.Grind.{common_steps}
use Rattle.std.proofs.lemmas.List.Elements.{All-more}
use Rattle.vx_value.specs.Value.{IsLawful}
use Rattle.vx_value.specs.Row.{value_at}
use Rattle.vx_value.specs.KeyBytes as spec
use Rattle.vx_value.proofs.KeyLemmas.{key_bytes-same}
use Rattle.vx_value.proofs.keys.key_bytes.Goals as goal

pub loop-column-preserved : goal.loop-column-preserved
loop-column-preserved c = (
  grind (arith, common_steps),
  All-more (λ column. IsLawful (value_at c.args.row.now column)) c.args.columns.now c.loop-column.column-index 0 (omega arith) c.loop-column.invariant.1
      (subst IsLawful c.get.ensures.is c.get.ensures.lawful),
)

pub returns-clause-lawful : goal.returns-clause-lawful
returns-clause-lawful c =
    let all : take c.loop-column.column-index c.args.columns.now ≡ c.args.columns.now = take_all c.loop-column.column-index c.args.columns.now (omega arith) in
    rw all at c.loop-column.invariant.1

pub returns-clause-identifies : goal.returns-clause-identifies
returns-clause-identifies c other lawful h =
    let columns = c.args.columns.now in
    let row = c.args.row.now in
    let all : take c.loop-column.column-index columns ≡ columns = take_all c.loop-column.column-index columns (omega arith) in
    key_bytes-same columns other row lawful (rw all at c.loop-column.invariant.1)
    (h ∙ c.loop-column.invariant.0 ∙ ap (λ columns. spec.key_bytes columns row) all)
