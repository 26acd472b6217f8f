use Rattle.std.proofs.Common.{◌∙◌, ◌≡◌, ap, arith, ℕ, ◌+◌, ◌-◌, []}
use Rattle.vx_records.specs.Record.{RecordsModel}
use Rattle.vx_records.specs.Head.{records_of}
use Rattle.vx_records.proofs.Editing.{none_spelled}
use Rattle.vx_records.proofs.records.Records.new.Goals as goal

pub returns : goal.returns
returns c =
    let len : 8 + c.args.len - 8 ≡ c.args.len = omega arith in
    ap records_of c.new.ensures ∙ (none_spelled (8 + c.args.len) ∙ ap (λ (n : ℕ). let m : RecordsModel = record { len = n; records = [] } in m) len)
