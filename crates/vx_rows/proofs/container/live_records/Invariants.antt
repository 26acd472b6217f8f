use Rattle.std.proofs.Common.{◌≡◌, is_some}
use Rattle.std.specs.List.{filter, range_with_len}
use Rattle.vx_records.specs.Record.{record_in}
use Rattle.vx_rows.proofs.container.live_records.Given as goal

abbrev pub invariant-loop-number : goal.invariant-loop-number
invariant-loop-number l = l.numbers.items ≡ filter (λ n. is_some (record_in l.records n)) (range_with_len 0 l.number)
